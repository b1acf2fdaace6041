-- What is found in an item, in the order of its text: its occurrences.
use Rattle.std.specs.Prelude.{ℕ, true, false, List, [], ◌∷◌, ◌++◌, map, Option, Some, None}
use Rattle.std.specs.List.{flat_map}
use Rattle.snl_grammar.specs.declared.tree.declaration.Parameter.{Parameter}
use Rattle.snl_grammar.specs.declared.tree.item.Item.{Item}
use Rattle.snl_grammar.specs.declared.tree.item.Item.TheVariants as items
use Rattle.snl_grammar.specs.declared.tree.item.StructMember.{StructMember}
use Rattle.snl_grammar.specs.declared.tree.item.StructMember.TheVariants as struct_members
use Rattle.snl_grammar.specs.declared.tree.state.StateMember.{StateMember}
use Rattle.snl_grammar.specs.declared.tree.state.StateMember.TheVariants as members
use Rattle.snl_grammar.specs.declared.tree.state.Target.{Target}
use Rattle.snl_grammar.specs.declared.tree.state.Target.TheVariants as target
use Rattle.snl_grammar.specs.declared.tree.state.Transition.{Transition}
use Rattle.snl_grammar.specs.declared.tree.statement.Member.{Member}
use Rattle.snl_walk.specs.declared.occurrence.Occurrence.{Occurrence}
use Rattle.snl_walk.specs.declared.occurrence.Context.{Context}
use Rattle.snl_walk.specs.declared.occurrence.What.TheVariants as what
use Rattle.snl_walk.specs.Declares.{declared_by_parameter, declared_by_state}
use Rattle.snl_walk.specs.Expressions.{names_if}
use Rattle.snl_walk.specs.Scopes.{Names, seen, under_names}
use Rattle.snl_walk.specs.Statements.{declaration_at, found_in_block, found_in_declaration}

-- A block at entry or exit, or of a function; and the block of a transition.
abbrev pub outside : Context
outside = record { in_loop = false; in_transition = false }

abbrev pub in_transition : Context
in_transition = record { in_loop = false; in_transition = true }

abbrev pub found_in_target : Target → List Occurrence
found_in_target (target.State name) = record { token = name; what = what.Target; means = None } ∷ []
found_in_target target.Exit = []

-- A condition is in the scope of its state.
abbrev pub found_in_transition : (ℕ → List ℕ) → Names → Transition → List Occurrence
found_in_transition bytes visible t =
    map (seen bytes visible true) (names_if t.condition) ++ found_in_block bytes t.block visible in_transition ++ found_in_target t.target

abbrev pub found_in_member : (ℕ → List ℕ) → Names → StateMember → List Occurrence
found_in_member bytes visible (members.Declaration d) = found_in_declaration bytes visible false d
found_in_member bytes visible (members.Foreign names) = map (declaration_at bytes visible false) names
found_in_member bytes visible (members.Entry block) = found_in_block bytes block visible outside
found_in_member bytes visible (members.Exit block) = found_in_block bytes block visible outside
found_in_member bytes visible (members.When t) = found_in_transition bytes visible t
found_in_member bytes visible _ = []

abbrev pub found_in_state : (ℕ → List ℕ) → List StateMember → List Occurrence
found_in_state bytes ms = flat_map (found_in_member bytes (under_names bytes (declared_by_state bytes ms))) ms

abbrev pub found_in_parameter : (ℕ → List ℕ) → Names → Parameter → List Occurrence
found_in_parameter bytes visible p = map (seen bytes visible false) (flat_map names_if p.lengths)

abbrev pub found_at_name : (ℕ → List ℕ) → Names → Option ℕ → List Occurrence
found_at_name bytes visible None = []
found_at_name bytes visible (Some n) = declaration_at bytes visible false n ∷ []

abbrev pub found_in_named : (ℕ → List ℕ) → Names → Parameter → List Occurrence
found_in_named bytes visible p = found_at_name bytes visible p.name ++ found_in_parameter bytes visible p

-- The parameters of a function with a body are a scope, in which their lengths are.
abbrev pub found_with_body : (ℕ → List ℕ) → List Parameter → List Member → List Occurrence
found_with_body bytes ps block =
    flat_map (found_in_named bytes (under_names bytes (flat_map declared_by_parameter ps))) ps
    ++ found_in_block bytes block (under_names bytes (flat_map declared_by_parameter ps)) outside

-- A prototype declares nothing.
abbrev pub found_in_function : (ℕ → List ℕ) → List Parameter → Option (List Member) → List Occurrence
found_in_function bytes ps None = flat_map (found_in_parameter bytes []) ps
found_in_function bytes ps (Some block) = found_with_body bytes ps block

-- Members of a struct are in no scope.
abbrev pub found_in_struct_member : (ℕ → List ℕ) → StructMember → List Occurrence
found_in_struct_member bytes (struct_members.Declaration d) = found_in_declaration bytes [] false d
found_in_struct_member bytes (struct_members.CBlock n) = []

-- The occurrences of an item. What it declares at program level or in its state set is resolved by
-- the links of all items: a definition and the members of a struct see no names here.
unfoldable pub occurrences : (ℕ → List ℕ) → Item → List Occurrence
occurrences bytes (items.Definition d) = found_in_declaration bytes [] false d
occurrences bytes (items.Entry block) = found_in_block bytes block [] outside
occurrences bytes (items.Exit block) = found_in_block bytes block [] outside
occurrences bytes (items.StateBlock name ms) = found_in_state bytes ms
occurrences bytes (items.Function f) = found_in_function bytes f.parameters f.body
occurrences bytes (items.StructDef name ms) = flat_map (found_in_struct_member bytes) ms
occurrences bytes _ = []

-- Where occurrences are.
abbrev pub tokens_of : List Occurrence → List ℕ
tokens_of found = map (λ o. o.token) found
