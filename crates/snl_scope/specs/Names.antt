-- The names that items bring into namespaces, and those that occur twice in one.
use Rattle.std.specs.Prelude.{ℕ, zero, suc, Bool, true, false, ◌&&◌, if◌then◌else◌, List, [], ◌∷◌, ◌++◌, filter, map, length, not, slice_get, nat_eq, bytes_eq, position, Option, None, Some, is_some, option_to_list}
use Rattle.std.specs.Option.{option_map_or, option_or}
use Rattle.snl_codes.specs.declared.code.Code.{Code}
use Rattle.snl_codes.specs.declared.code.Code.TheVariants.{E07, E08, E09}
use Rattle.snl_scope.specs.declared.facts.LinkFault.{LinkFault}
use Rattle.snl_scope.specs.declared.names.namespaces.Namespace.{Namespace}
use Rattle.snl_scope.specs.declared.names.namespaces.Namespace.TheVariants as namespace
use Rattle.snl_summary.specs.declared.summary.Declared.{Declared}
use Rattle.snl_summary.specs.declared.summary.ItemKind.{ItemKind}
use Rattle.snl_summary.specs.declared.summary.Outline.{Outline}
use Rattle.snl_summary.specs.declared.summary.Role.{Role}
use Rattle.snl_summary.specs.declared.summary.Role.TheVariants as role
use Rattle.snl_summary.specs.declared.summary.Variable.{Variable}
use Rattle.snl_scope.specs.LinkedItems.{LinkedItems}
use Rattle.snl_scope.specs.Order.{is_faulty, state_name}
use Rattle.snl_scope.specs.Places.{begins_set, enclosing_set}

-- A name that an item brings into a namespace. `code` is what it gives where an earlier one has the
-- name, if anything;
-- `variable` is what a declaration says of it.
pub record Entry : Type 0 where
  pub namespace : Namespace
  pub name : List ℕ
  pub item : ℕ
  pub token : ℕ
  pub code : Option Code
  pub variable : Option Variable

-- The scope of what is at a place.
abbrev pub scope_at : Option ℕ → Namespace
scope_at None = namespace.Program
scope_at (Some k) = namespace.StateSet k

-- The scope that an item declares in: a state its own, any other the one that it is in.
abbrev pub has_own_scope : Role → Bool
has_own_scope role.State = true
has_own_scope _ = false

abbrev pub scope_of : List Outline → ℕ → Outline → Namespace
scope_of ss i s = if has_own_scope s.role then namespace.State i else scope_at (enclosing_set ss i)

-- What a second declaration in a scope gives. Those of a state are found with the state.
abbrev pub scope_code : Namespace → Option Code
scope_code (namespace.State i) = None
scope_code _ = Some E07

abbrev pub declared_entry : Namespace → ℕ → Declared → Entry
declared_entry scope i d = record { namespace = scope; name = d.name; item = i; token = d.token; code = scope_code scope; variable = Some d.variable }

-- The name of an item is its second token.
abbrev pub named_entry : Namespace → ℕ → Option Code → List ℕ → Entry
named_entry names i code name = record { namespace = names; name = name; item = i; token = 1; code = code; variable = None }

-- The name of the state set that an item begins.
abbrev pub set_name : Outline → Option (List ℕ)
set_name s = if begins_set s.role then s.second else None

abbrev pub set_entries : ℕ → Outline → List Entry
set_entries i s = map (named_entry namespace.Sets i (Some E08)) (option_to_list (set_name s))

-- A state in a state set, sound or faulty; one at program level is in none.
abbrev pub state_entries : Option ℕ → ℕ → Outline → List Entry
state_entries None i s = []
state_entries (Some k) i s = map (named_entry (namespace.States k) i (Some E09)) (option_to_list (state_name s))

-- The entries of item i, and of all items in order.
abbrev pub entries_of : List Outline → ℕ → Outline → List Entry
entries_of ss i s = set_entries i s ++ state_entries (enclosing_set ss i) i s ++ map (declared_entry (scope_of ss i s) i) s.declares

abbrev pub entries_before : List Outline → ℕ → List Entry
entries_before ss zero = []
entries_before ss (suc n) = entries_before ss n ++ option_map_or (entries_of ss n) (slice_get ss n) []

abbrev pub entries : List Outline → List Entry
entries ss = entries_before ss (length ss)

-- One namespace.
abbrev pub same_namespace : Namespace → Namespace → Bool
same_namespace namespace.Program namespace.Program = true
same_namespace (namespace.StateSet a) (namespace.StateSet b) = nat_eq a b
same_namespace (namespace.State a) (namespace.State b) = nat_eq a b
same_namespace namespace.Sets namespace.Sets = true
same_namespace (namespace.States a) (namespace.States b) = nat_eq a b
same_namespace _ _ = false

abbrev pub has_name : Namespace → List ℕ → Entry → Bool
has_name s name e = same_namespace s e.namespace && bytes_eq name e.name

-- The number of the first entry with a name in a namespace.
abbrev pub number_in : List Entry → Namespace → List ℕ → Option ℕ
number_in es s name = position (has_name s name) es

-- The number of the entry that a name resolves to from where the items of a place are: the first
-- declaration in the state set, else the first in the program.
abbrev pub resolve : List Entry → Option ℕ → List ℕ → Option ℕ
resolve es None name = number_in es namespace.Program name
resolve es (Some k) name = option_or (number_in es (namespace.StateSet k) name) (number_in es namespace.Program name)

-- What a second entry with its name gives.
abbrev pub repetition_at : Entry → List LinkFault
repetition_at e = map (λ code. record { item = e.item; token = e.token; code = code }) (option_to_list e.code)

abbrev pub repetition : List Entry → Entry → List LinkFault
repetition earlier e = if is_some (number_in earlier e.namespace e.name) then repetition_at e else []

-- What is found at entries, after the earlier ones.
abbrev pub repetitions : List Entry → List Entry → List LinkFault
repetitions earlier [] = []
repetitions earlier (e ∷ es) = repetition earlier e ++ repetitions (earlier ++ e ∷ []) es

-- A faulty state has its name, but gives no finding of its own: what is found at an item is told if
-- it isn't faulty.
abbrev pub told_by : List ItemKind → LinkFault → Bool
told_by ks f = not (option_map_or is_faulty (slice_get ks f.item) false)

-- E07, E08 and E09: each second or later declaration of a name in the scope of the program or of a
-- state set, state set of a name, and state of a name in its state set.
abbrev pub name_faults : LinkedItems → List LinkFault
name_faults l = filter (told_by l.kinds) (repetitions [] (entries l.outlines))
