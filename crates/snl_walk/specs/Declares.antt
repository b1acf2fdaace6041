-- What the scopes of an item declare, in the order of the text, and what each name passes for
-- there.
use Rattle.std.specs.Prelude.{ℕ, Bool, true, false, List, [], ◌∷◌, map, Option, Some, None}
use Rattle.std.specs.List.{flat_map, list_any}
use Rattle.std.specs.Str.{bytes_eq}
use Rattle.snl_grammar.specs.declared.tree.clause.Clause.{Clause}
use Rattle.snl_grammar.specs.declared.tree.clause.Clause.TheVariants as clauses
use Rattle.snl_grammar.specs.declared.tree.declaration.Declaration.{Declaration}
use Rattle.snl_grammar.specs.declared.tree.declaration.Parameter.{Parameter}
use Rattle.snl_grammar.specs.declared.tree.state.StateMember.{StateMember}
use Rattle.snl_grammar.specs.declared.tree.state.StateMember.TheVariants as members
use Rattle.snl_grammar.specs.declared.tree.types.Base.{Base}
use Rattle.snl_grammar.specs.declared.tree.types.Base.TheVariants as bases
use Rattle.snl_walk.specs.Once.{once}
use Rattle.snl_walk.specs.declared.occurrence.Local.{Local}

abbrev pub is_event_flag : Base → Bool
is_event_flag bases.Evflag = true
is_event_flag _ = false

abbrev pub declare : ℕ → Bool → Bool → Local
declare n flag channel = record { token = n; flag = flag; channel = channel }

-- What is declared in a block is never assigned.
abbrev pub declared_in_block : Declaration → List Local
declared_in_block d = map (λ declarator. declare declarator.name (is_event_flag d.of.base) false) d.declarators

abbrev pub declared_if : Option ℕ → Bool → List Local
declared_if None flag = []
declared_if (Some n) flag = declare n flag true ∷ []

-- A parameter passes for a channel.
abbrev pub declared_by_parameter : Parameter → List Local
declared_by_parameter p = declared_if p.name (is_event_flag p.of.base)

-- The names that the `assign` clauses of a state are for.
abbrev pub assigned_by : Clause → List ℕ
assigned_by (clauses.Assign name channel) = name ∷ []
assigned_by _ = []

abbrev pub assigned_in_member : StateMember → List ℕ
assigned_in_member (members.Clause clause) = assigned_by clause
assigned_in_member _ = []

abbrev pub assigned_in_state : (ℕ → List ℕ) → List StateMember → List (List ℕ)
assigned_in_state bytes ms = once (map bytes (flat_map assigned_in_member ms))

abbrev pub declared_in_state : (ℕ → List ℕ) → List (List ℕ) → Declaration → List Local
declared_in_state bytes assigned d =
    map (λ declarator. declare declarator.name (is_event_flag d.of.base) (list_any (bytes_eq (bytes declarator.name)) assigned)) d.declarators

-- A foreign name passes for both.
abbrev pub declared_by_member : (ℕ → List ℕ) → List (List ℕ) → StateMember → List Local
declared_by_member bytes assigned (members.Declaration d) = declared_in_state bytes assigned d
declared_by_member bytes assigned (members.Foreign names) = map (λ n. declare n true true) names
declared_by_member bytes assigned _ = []

-- What a state declares: a variable of it is assigned by a clause in it.
unfoldable pub declared_by_state : (ℕ → List ℕ) → List StateMember → List Local
declared_by_state bytes ms = flat_map (declared_by_member bytes (assigned_in_state bytes ms)) ms
