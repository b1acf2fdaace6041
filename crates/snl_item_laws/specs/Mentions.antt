-- Which tokens of an item a walk has to find, told by what its tree spells: by the kinds of the
-- tokens and the token before each.
use Rattle.std.specs.Prelude.{ℕ, suc, Bool, true, false, not, ◌&&◌, List, [], ◌∷◌, ◌++◌, map, if◌then◌else◌, Option, Some, None}
use Rattle.std.specs.List.{flat_map}
use Rattle.snl_lex.specs.declared.kind.Kind.{Kind}
use Rattle.snl_lex.specs.declared.kind.Kind.TheVariants as kind
use Rattle.snl_grammar.specs.declared.tree.declaration.Parameter.{Parameter}
use Rattle.snl_grammar.specs.declared.tree.item.Item.{Item}
use Rattle.snl_grammar.specs.declared.tree.item.Item.TheVariants as items
use Rattle.snl_grammar.specs.declared.tree.state.StateMember.{StateMember}
use Rattle.snl_grammar.specs.declared.tree.state.StateMember.TheVariants as members
use Rattle.snl_grammar.specs.declared.tree.statement.Member.{Member}
use Rattle.snl_grammar.specs.Spelling.Base.{Spelled, commas, joined}
use Rattle.snl_grammar.specs.Spelling.Declarations.{spell_declaration, spell_length}
use Rattle.snl_grammar.specs.Spelling.Functions.{spell_parameter, spell_struct_member}
use Rattle.snl_grammar.specs.Spelling.Statements.{spell_block}
use Rattle.snl_grammar.specs.Spelling.States.{spell_state_member, spell_transition}
use Rattle.snl_walk.specs.declared.occurrence.What.{What}
use Rattle.snl_walk.specs.declared.occurrence.What.TheVariants as what

-- ---- kinds of tokens

abbrev pub is_name : Kind → Bool
is_name kind.Name = true
is_name _ = false

-- `break` and `continue`
abbrev pub jumps : Kind → Bool
jumps kind.Break = true
jumps kind.Continue = true
jumps _ = false

abbrev pub is_state : Kind → Bool
is_state kind.State = true
is_state _ = false

-- The name after this token is that of a member, of a type or of a state.
abbrev pub hides : Kind → Bool
hides kind.Dot = true
hides kind.Arrow = true
hides kind.Enum = true
hides kind.Struct = true
hides kind.Union = true
hides kind.Typename = true
hides kind.State = true
hides _ = false

-- ---- what is found, by what it is

-- A name, used or declared.
abbrev pub is_named : What → Bool
is_named (what.Name m) = true
is_named (what.Declaration is_wrong) = true
is_named _ = false

abbrev pub is_jump : What → Bool
is_jump (what.Jump in_loop) = true
is_jump _ = false

abbrev pub is_change : What → Bool
is_change (what.Change in_transition) = true
is_change _ = false

-- ---- places

-- The numbers of the tokens that pass, counted from this number on.
abbrev pub places_from : ℕ → (Kind → Bool) → List Kind → List ℕ
places_from n test [] = []
places_from n test (k ∷ ks) = (if test k then n ∷ [] else []) ++ places_from (suc n) test ks

abbrev pub places : (Kind → Bool) → List Kind → List ℕ
places = places_from 0

-- The number of a leaf, if it passes.
abbrev pub number_if : Bool → Option ℕ → List ℕ
number_if true (Some n) = n ∷ []
number_if _ _ = []

-- The numbers of the leaves whose kind passes.
abbrev pub leaves_where : (Kind → Bool) → List Spelled → List ℕ
leaves_where test [] = []
leaves_where test (x ∷ xs) = number_if (test x.0) x.1 ++ leaves_where test xs

-- The names among leaves, but those of members, types and states. `hidden` says whether the first
-- is such a one.
abbrev pub names_from : Bool → List Spelled → List ℕ
names_from hidden [] = []
names_from hidden (x ∷ xs) = number_if (is_name x.0 && not hidden) x.1 ++ names_from (hides x.0) xs

abbrev pub names_in : List Spelled → List ℕ
names_in = names_from false

-- The names directly after the word `state`. `named` says whether the first leaf is directly after
-- it.
abbrev pub states_from : Bool → List Spelled → List ℕ
states_from named [] = []
states_from named (x ∷ xs) = number_if (is_name x.0 && named) x.1 ++ states_from (is_state x.0) xs

abbrev pub states_in : List Spelled → List ℕ
states_in = states_from false

-- ---- parts of an item

-- The links alone read the names in clauses and the letters of options.
abbrev pub looked_up_in_member : StateMember → List Spelled
looked_up_in_member (members.Clause clause) = []
looked_up_in_member (members.OptionLine line) = []
looked_up_in_member m = spell_state_member m

abbrev pub lengths_of : Parameter → List Spelled
lengths_of p = joined (map spell_length p.lengths)

-- The parameters of a prototype declare nothing: their lengths alone have names that count.
abbrev pub looked_up_in_function : List Parameter → Option (List Member) → List Spelled
looked_up_in_function ps None = flat_map lengths_of ps
looked_up_in_function ps (Some block) = commas (map spell_parameter ps) ++ spell_block block

-- The parts of an item in which names are looked up or declared inside it. Its own name is in none
-- of them.
abbrev pub looked_up_in : Item → List Spelled
looked_up_in (items.Definition d) = spell_declaration d
looked_up_in (items.Entry block) = spell_block block
looked_up_in (items.Exit block) = spell_block block
looked_up_in (items.StateBlock name ms) = flat_map looked_up_in_member ms
looked_up_in (items.Function f) = looked_up_in_function f.parameters f.body
looked_up_in (items.StructDef name ms) = flat_map spell_struct_member ms
looked_up_in _ = []

abbrev pub transition_in : StateMember → List Spelled
transition_in (members.When t) = spell_transition t
transition_in _ = []

-- The transitions of a state.
abbrev pub transitions_in : Item → List Spelled
transitions_in (items.StateBlock name ms) = flat_map transition_in ms
transitions_in _ = []
