-- How the tables that links are made of follow the list of summaries.
use Rattle.std.specs.Prelude.{◌≡◌, ℕ, zero, suc, ◌<◌, Bool, true, false, not, ◌&&◌, ◌||◌, if◌then◌else◌, List, [], map, length, get_or, set, slice_get, nat_eq, nat_lt, bytes_eq, position, Option, None, Some, is_some, is_none, option_and_then}
use Rattle.std.specs.Map.{lookup}
use Rattle.std.specs.Option.{option_map_or, option_or}
use Rattle.snl_scope.specs.declared.facts.LinkFault.{LinkFault}
use Rattle.snl_scope.specs.declared.items.heads.Head.{Head}
use Rattle.snl_scope.specs.declared.items.phases.Before.{Before}
use Rattle.snl_scope.specs.declared.items.heads.Sought.{Sought}
use Rattle.snl_scope.specs.declared.items.heads.Sought.TheVariants as sought
use Rattle.snl_scope.specs.declared.names.first_numbers.FirstNumbers.{FirstNumbers}
use Rattle.snl_scope.specs.declared.names.first_numbers.NameHead.{NameHead}
use Rattle.snl_scope.specs.declared.names.namespaces.QualifiedName.{QualifiedName}
use Rattle.snl_scope.specs.declared.names.namespaces.Namespace.{Namespace}
use Rattle.snl_scope.specs.declared.names.namespaces.Namespace.TheVariants as namespace
use Rattle.snl_summary.specs.declared.summary.ItemKind.{ItemKind}
use Rattle.snl_summary.specs.declared.summary.Opening.{Opening}
use Rattle.snl_summary.specs.declared.summary.Outline.{Outline}
use Rattle.snl_scope.specs.declared.names.name_tables.NameEntry.{NameEntry}
use Rattle.snl_scope.specs.declared.names.name_tables.NameTables.{NameTables}
use Rattle.snl_scope.specs.declared.names.name_tables.Symbol.{Symbol}
use Rattle.snl_scope.specs.Below.{all_below, any_below}
use Rattle.snl_scope.specs.Flags.{declares_flag, is_first_at}
use Rattle.snl_scope.specs.LinkedItems.{LinkedItems}
use Rattle.snl_scope.specs.Names.{Entry, number_in, repetitions, same_namespace}
use Rattle.snl_scope.specs.OutlineList.{name_at}
use Rattle.snl_scope.specs.Order.{has_begun, is_barred_in_sets, is_main, is_program_item, is_program_word, is_state, is_state_word, phase, phase_of, state_name}
use Rattle.snl_scope.specs.Places.{ends_set, item_is, enclosing_set, stands_in}

-- The places of the first n items.
pub record Placed (places : List (Option ℕ)) (ss : List Outline) (n : ℕ) : Type 0 where
  pub len : length places ≡ n
  pub each : (i : ℕ) → i < n → slice_get places i ≡ Some (enclosing_set ss i)

-- The greater of a phase and the greatest one so far.
abbrev pub with_phase : Option ℕ → ℕ → ℕ
with_phase None greatest = greatest
with_phase (Some p) greatest = if nat_lt greatest p then p else greatest

abbrev pub greatest_before : LinkedItems → ℕ → ℕ
greatest_before l zero = 0
greatest_before l (suc n) = with_phase (phase l n) (greatest_before l n)

-- What the items before item i say to it.
abbrev pub before : LinkedItems → ℕ → Before
before l i = record { greatest = greatest_before l i; begun = has_begun l i; has_program = any_below (is_program_item l.outlines) i }

abbrev pub phase_in : Bool → Option ℕ → ItemKind → Option ℕ
phase_in begun None k = phase_of begun k
phase_in begun (Some _) k = None

-- A phase that a greater one is before.
abbrev pub is_below : Option ℕ → ℕ → Bool
is_below None greatest = false
is_below (Some p) greatest = nat_lt p greatest

abbrev pub barred_at : Option ℕ → ItemKind → Bool
barred_at None k = is_state k
barred_at (Some _) k = is_barred_in_sets k

abbrev pub later_program : Before → Opening → Bool
later_program b o = is_program_word o && b.has_program

-- An item of a kind is out of place after them, by its place and the word that it begins with.
abbrev pub misplaced_after : Before → Option ℕ → ItemKind → Opening → Bool
misplaced_after b p k o = (is_below (phase_in b.begun p k) b.greatest || barred_at p k) && not (later_program b o)

-- And what they say together with such an item.
abbrev pub and_item : Before → Option ℕ → ItemKind → Opening → Before
and_item b p k o = record {
  greatest = with_phase (phase_in b.begun p k) b.greatest;
  begun = (is_main k && is_none p) || b.begun;
  has_program = is_program_word o || b.has_program;
}

-- What the order of items asks of an outline.
abbrev pub head_of : Outline → Head
head_of s = record { role = s.role; opening = s.opening; is_named = is_some s.second }

-- The item is what is sought in state sets.
abbrev pub is_sought : Sought → Outline → Bool
is_sought sought.End s = ends_set s.role
is_sought sought.State s = is_some (state_name s)

-- The same, told of its head.
abbrev pub is_sought_head : Sought → Head → Bool
is_sought_head sought.End h = ends_set h.role
is_sought_head sought.State h = is_state_word h.opening && h.is_named

-- Whether an item that passes the test is in each state set, as far as the first n items tell.
pub record Marked (test : Outline → Bool) (marks : List Bool) (ss : List Outline) (n : ℕ) : Type 0 where
  pub len : length marks ≡ length ss
  pub each : (k : ℕ) → k < length ss → get_or marks k false ≡ any_below (λ j. item_is test ss j && stands_in ss k j) n

-- The state set that an item is in, if it is sought.
abbrev pub set_of : Bool → Option ℕ → Option ℕ
set_of is_sought p = if is_sought then p else None

-- The marks with one more.
abbrev pub with_mark : List Bool → Option ℕ → List Bool
with_mark marks p = option_map_or (λ k. set marks k true) p marks

-- One name in one namespace.
abbrev pub same_key : QualifiedName → QualifiedName → Bool
same_key a b = same_namespace a.namespace b.namespace && nat_eq a.name b.name

abbrev pub is_program : Namespace → Bool
is_program namespace.Program = true
is_program (namespace.StateSet k) = false
is_program (namespace.State k) = false
is_program namespace.Sets = false
is_program (namespace.States k) = false

-- The scope of a state set or of a state.
abbrev pub is_inner : Namespace → Bool
is_inner namespace.Program = false
is_inner (namespace.StateSet k) = true
is_inner (namespace.State k) = true
is_inner namespace.Sets = false
is_inner (namespace.States k) = false

-- What is known of the name with a number.
abbrev pub name_head : List NameHead → ℕ → NameHead
name_head heads n = get_or heads n (record { in_program = None; is_inner = false })

-- What the tables have for a name in a namespace.
abbrev pub number_under : FirstNumbers → Namespace → ℕ → Option ℕ
number_under first s n = if is_program s then (name_head first.heads.items n).in_program else lookup (same_key (record { namespace = s; name = n })) first.elsewhere

-- A name that nothing inner is known of has nothing in the scope of a state set or of a state.
abbrev pub TellsInner : FirstNumbers → Type 0
TellsInner first = (s : Namespace) (n : ℕ) → is_inner s ≡ true → (name_head first.heads.items n).is_inner ≡ false → number_under first s n ≡ None

-- The tables say the same.
pub record AreSame (old new : FirstNumbers) : Type 0 where
  pub under : (s : Namespace) (n : ℕ) → number_under new s n ≡ number_under old s n
  pub inner : (n : ℕ) → (name_head new.heads.items n).is_inner ≡ (name_head old.heads.items n).is_inner

-- A key has come that is new.
pub record IsPut (old new : FirstNumbers) (key : QualifiedName) (number : ℕ) : Type 0 where
  pub under : (s : Namespace) (n : ℕ) → number_under new s n ≡ (if same_key key (record { namespace = s; name = n }) then Some number else number_under old s n)
  pub inner : TellsInner old → TellsInner new

-- The same in the state set that is around it, or else in the program.
abbrev pub nearest_under : FirstNumbers → Option ℕ → ℕ → Option ℕ
nearest_under first None name = number_under first namespace.Program name
nearest_under first (Some k) name = option_or (number_under first (namespace.StateSet k) name) (number_under first namespace.Program name)

abbrev pub number_by : List (List ℕ) → FirstNumbers → Namespace → List ℕ → Option ℕ
number_by names first s name = option_and_then (number_under first s) (position (bytes_eq name) names)

-- Where an entry is, and what it declares.
abbrev pub symbol_of : Entry → Symbol
symbol_of e = record { namespace = e.namespace; item = e.item; token = e.token; variable = e.variable }

-- The entry with a number declares an event flag, by what the tables have there.
abbrev pub flag_stands : List Symbol → ℕ → Bool
flag_stands symbols number = option_map_or (λ s. declares_flag s.variable) (slice_get symbols number) false

-- The tables tell of a list of entries the first of each name in a namespace, and where each is.
pub record Tabled (names : List (List ℕ)) (first : FirstNumbers) (symbols : List Symbol) (es : List Entry) : Type 0 where
  pub found : (s : Namespace) (name : List ℕ) → number_by names first s name ≡ number_in es s name
  pub inner : TellsInner first
  pub known : symbols ≡ map symbol_of es

-- And more can be added, with findings at the names that came again. The table of the first has
-- them in the order in which they came.
pub record Follows (names : List (List ℕ)) (first : FirstNumbers) (symbols : List Symbol) (faults : List LinkFault) (es : List Entry) : Type 0 where
  pub tabled : Tabled names first symbols es
  pub again : faults ≡ repetitions [] es
  pub firsts : first.numbers.items ≡ all_below (is_first_at es) (length es)

abbrev pub TablesFollow : List (List ℕ) → NameTables → List Entry → Type 0
TablesFollow names t es = Follows names t.first t.symbols.items t.faults.items es

-- A name that is handed in, as an entry.
abbrev pub entry_of : List (List ℕ) → NameEntry → Entry
entry_of names d = record { namespace = d.namespace; name = name_at names d.name; item = d.item; token = d.token; code = d.code; variable = d.variable }

-- Where it is, and what it declares.
abbrev pub symbol_named : NameEntry → Symbol
symbol_named d = record { namespace = d.namespace; item = d.item; token = d.token; variable = d.variable }
