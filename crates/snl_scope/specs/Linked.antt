-- What the links of items answer: all but the findings by the outlines alone.
use Rattle.std.specs.Prelude.{ℕ, Bool, false, if◌then◌else◌, List, ◌++◌, length, slice_get, nat_eq, nat_lt, Option, None, Some, is_some, option_map, option_and_then}
use Rattle.std.specs.Option.{option_map_or}
use Rattle.snl_scope.specs.declared.facts.Assigned.{Assigned}
use Rattle.snl_scope.specs.declared.facts.NameKind.{NameKind}
use Rattle.snl_scope.specs.declared.facts.NameKind.TheVariants as name_kind
use Rattle.snl_scope.specs.declared.facts.Declaration.{Declaration}
use Rattle.snl_scope.specs.declared.facts.Fact.{Fact}
use Rattle.snl_scope.specs.declared.facts.Level.{Level}
use Rattle.snl_scope.specs.declared.facts.Level.TheVariants as level
use Rattle.snl_scope.specs.declared.facts.LinkFault.{LinkFault}
use Rattle.snl_scope.specs.declared.facts.Scope.{Scope}
use Rattle.snl_scope.specs.declared.facts.Scope.TheVariants as scope
use Rattle.snl_scope.specs.declared.names.namespaces.Namespace.{Namespace}
use Rattle.snl_scope.specs.declared.names.namespaces.Namespace.TheVariants as namespace
use Rattle.snl_summary.specs.declared.summary.SymbolKind.{SymbolKind}
use Rattle.snl_summary.specs.declared.summary.SymbolKind.TheVariants as symbol_kind
use Rattle.snl_summary.specs.declared.summary.Outline.{Outline}
use Rattle.snl_summary.specs.declared.summary.Variable.{Variable}
use Rattle.snl_scope.specs.Clauses.{assigned_by, clause_faults, clauses_of}
use Rattle.snl_scope.specs.LinkedItems.{LinkedItems}
use Rattle.snl_scope.specs.Names.{Entry, entries, number_in, name_faults, resolve}
use Rattle.snl_scope.specs.Order.{order_faults, state_name}
use Rattle.snl_scope.specs.Places.{enclosing_set}

-- The scope in which a declaration is, as the items see it that can name it.
abbrev pub level_of : Namespace → Level
level_of (namespace.StateSet k) = level.StateSet
level_of _ = level.Program

abbrev pub name_kind_of : SymbolKind → NameKind
name_kind_of symbol_kind.EventFlag = name_kind.EventFlag
name_kind_of symbol_kind.Foreign = name_kind.Foreign
name_kind_of symbol_kind.Function = name_kind.Function
name_kind_of symbol_kind.Assignable = name_kind.Other
name_kind_of symbol_kind.Unassignable = name_kind.Other

abbrev pub variable_fact : Assigned → Namespace → Variable → Fact
variable_fact a s v = record { level = level_of s; kind = name_kind_of v.symbol_kind; dims = v.dims; assigned = a }

-- What is known of an entry, where it is a declaration.
abbrev pub entry_fact : Assigned → Entry → Option Fact
entry_fact a e = option_map (variable_fact a e.namespace) e.variable

-- What is known of the declaration with a number.
abbrev pub fact_at : List Outline → ℕ → Option Fact
fact_at ss number = option_and_then (entry_fact (assigned_by (clauses_of ss) number)) (slice_get (entries ss) number)

-- What a name means to an item, by the scopes outside it.
abbrev pub fact_of : List Outline → ℕ → List ℕ → Option Fact
fact_of ss i name =
    if nat_lt i (length ss)
    then option_and_then (fact_at ss) (resolve (entries ss) (enclosing_set ss i) name)
    else None

-- The scope that is a namespace; the names of state sets and states are in none.
abbrev pub scope_in : Namespace → Option Scope
scope_in namespace.Program = Some scope.Program
scope_in (namespace.StateSet k) = Some (scope.StateSet k)
scope_in (namespace.State i) = Some (scope.State i)
scope_in _ = None

abbrev pub variable_declaration : ℕ → ℕ → Scope → Variable → Declaration
variable_declaration i token s v = record { scope = s; item = i; token = token; variable = v }

-- What an entry declares. The name of a state set or a state is no declaration.
abbrev pub entry_declaration : Entry → Option Declaration
entry_declaration e = option_and_then (λ v. option_map (λ s. variable_declaration e.item e.token s v) (scope_in e.namespace)) e.variable

-- The declaration that is the entry with a number.
abbrev pub declaration_at : List Outline → ℕ → Option Declaration
declaration_at ss number = option_and_then entry_declaration (slice_get (entries ss) number)

-- The first state with a name in the state set that item k begins, by the number of its item.
abbrev pub state_in : List Outline → ℕ → List ℕ → Option ℕ
state_in ss k name = option_and_then (λ number. option_map (λ e. e.item) (slice_get (entries ss) number)) (number_in (entries ss) (namespace.States k) name)

-- The first state with a name in the state set in which an item is.
abbrev pub state_of : List Outline → ℕ → List ℕ → Option ℕ
state_of ss i name = option_and_then (λ k. state_in ss k name) (enclosing_set ss i)

-- The state set in which an item is has a state of the name.
abbrev pub has_target : List Outline → ℕ → List ℕ → Bool
has_target ss i name = option_map_or (λ k. is_some (number_in (entries ss) (namespace.States k) name)) (enclosing_set ss i) false

-- The name of an item that begins as a state does.
abbrev pub name_of_state : List Outline → ℕ → Option (List ℕ)
name_of_state ss j = option_and_then state_name (slice_get ss j)

-- State j is the first of its name in its set.
abbrev pub is_first_state : List Outline → ℕ → Bool
is_first_state ss j = option_map_or (λ name. option_map_or (nat_eq j) (state_of ss j name) false) (name_of_state ss j) false

-- All findings of links.
abbrev pub faults_of : LinkedItems → List LinkFault
faults_of l = order_faults l ++ name_faults l ++ clause_faults l.outlines
