-- An item that declares other names in the place of those that another one declared, or a state
-- with another name, which says nothing else to the others: all means to them what it meant, but
-- for these names.
use Rattle.std.specs.Prelude.{◌≡◌, ℕ, ⊤, All, Bool, true, false, ◌||◌, List, [], ◌∷◌, ◌++◌, length, map, Option, None, Some, option_and_then, option_to_list}
use Rattle.std.specs.List.{list_any}
use Rattle.std.specs.Option.{option_map_or}
use Rattle.snl_scope.specs.declared.renamed.Renaming.{Renaming}
use Rattle.snl_scope.specs.declared.renamed.Renaming.TheVariants as renaming
use Rattle.snl_summary.specs.declared.summary.Declared.{Declared}
use Rattle.snl_summary.specs.declared.summary.ItemKind.{ItemKind}
use Rattle.snl_summary.specs.declared.summary.Outline.{Outline}
use Rattle.snl_summary.specs.declared.summary.Role.TheVariants as role
use Rattle.snl_summary.specs.declared.summary.Variable.{Variable}
use Rattle.snl_summary.specs.declared.summary.VariableClause.{VariableClause}
use Rattle.snl_scope.specs.Channels.{is_monitored, sync_number}
use Rattle.snl_scope.specs.Clauses.{clause_faults, clause_links, clauses_of, is_event_flag, resolve_in, soundness}
use Rattle.snl_scope.specs.Flags.{flags_of}
use Rattle.snl_scope.specs.Linked.{declaration_at, has_target, is_first_state, state_of}
use Rattle.snl_scope.specs.Names.{entries}
use Rattle.snl_scope.specs.Order.{is_named_state, is_state_word, order_faults}
use Rattle.snl_scope.specs.Places.{enclosing_set, is_set_begin}
use Rattle.snl_scope.specs.Spoken.{AreEditedNames, bound, is_among}

-- An item bounds no state set, is no state, and has no clauses.
pub record IsPlain (o : Outline) : Type 0 where
  pub role : o.role ≡ role.Other
  pub word : is_state_word o.opening ≡ false
  pub no_clause : o.clauses ≡ []

-- What is declared, whatever its name.
pub record Unnamed : Type 0 where
  pub token : ℕ
  pub variable : Variable

abbrev pub unnamed : Declared → Unnamed
unnamed d = record { token = d.token; variable = d.variable }

-- An item declares what another one declared, one by one, if by other names: no event flags.
pub record DeclaresAnew (old new : Outline) : Type 0 where
  pub was : IsPlain old
  pub is : IsPlain new
  pub declares : map unnamed new.declares ≡ map unnamed old.declares
  pub no_flag : All (λ d. is_event_flag d.variable.symbol_kind ≡ false) old.declares

-- A state in the place of another, if by another name. Both declare the same, and have no clauses.
pub record RenamesState (old new : Outline) : Type 0 where
  pub bounds : bound old.role ≡ role.Other
  pub role : new.role ≡ old.role
  pub was_word : is_state_word old.opening ≡ true
  pub is_word : is_state_word new.opening ≡ true
  pub declares : new.declares ≡ old.declares
  pub was_clauses : old.clauses ≡ []
  pub is_clauses : new.clauses ≡ []

-- The names of a state before an edit and after it.
abbrev pub state_names : (old new : Outline) → List (List ℕ)
state_names old new = option_to_list old.second ++ option_to_list new.second

-- State j goes from one name to another, and no other state of its set has either name.
pub record NamesAnew (ss ts : List Outline) (j : ℕ) (old new : Outline) : Type 0 where
  pub renames : RenamesState old new
  pub was_own : option_and_then (state_of ss j) old.second ≡ Some j
  pub is_free : option_and_then (state_of ss j) new.second ≡ None
  pub is_own : option_and_then (state_of ts j) new.second ≡ Some j
  pub was_free : option_and_then (state_of ts j) old.second ≡ None

-- An item says by other names what the one before it said.
abbrev pub Renames : (old new : Outline) → Renaming → Type 0
Renames old new renaming.Declared = DeclaresAnew old new
Renames old new renaming.State = RenamesState old new

-- So does item j, and no other state of its set has its name of before or its name of after.
abbrev pub IsRenamed : (ss ts : List Outline) → ℕ → (old new : Outline) → Renaming → Type 0
IsRenamed ss ts j old new renaming.Declared = DeclaresAnew old new
IsRenamed ss ts j old new renaming.State = NamesAnew ss ts j old new

-- The names are those that the two items speak of, or those of the state.
abbrev pub AreNames : (old new : Outline) → Renaming → List (List ℕ) → Type 0
AreNames old new renaming.Declared names = AreEditedNames (old ∷ []) (new ∷ []) names
AreNames old new renaming.State names = names ≡ state_names old new

-- All means among the items `ts` what it means among the items `ss`, but for some names that items
-- use, and some of states that they lead to.
pub record MeanAlike (ss ts : List Outline) (used led_to : List (List ℕ)) : Type 0 where
  pub count : length ts ≡ length ss
  pub begins : (i : ℕ) → is_set_begin ts i ≡ is_set_begin ss i
  pub named : (i : ℕ) → is_named_state ts i ≡ is_named_state ss i
  pub places : (i : ℕ) → enclosing_set ts i ≡ enclosing_set ss i
  pub numbers : length (entries ts) ≡ length (entries ss)
  pub declared : (number : ℕ) → declaration_at ts number ≡ declaration_at ss number
  pub resolved : (i : ℕ) (name : List ℕ) → is_among used name ≡ false → resolve_in ts i name ≡ resolve_in ss i name
  pub states : (i : ℕ) (name : List ℕ) → is_among led_to name ≡ false → state_of ts i name ≡ state_of ss i name
  pub targets : (i : ℕ) (name : List ℕ) → is_among led_to name ≡ false → has_target ts i name ≡ has_target ss i name
  -- a state that is the first of its name is so by any name
  pub firsts : (i : ℕ) → is_first_state ts i ≡ is_first_state ss i

-- A clause is on one of these names, or has one as its flag.
abbrev pub is_on : List (List ℕ) → VariableClause → Bool
is_on names c = is_among names c.variable.name || option_map_or (λ m. is_among names m.name) c.flag false

-- Some clause of the items is.
abbrev pub some_is_on : List (List ℕ) → List Outline → Bool
some_is_on names ss = list_any (λ s. list_any (is_on names) s.clauses) ss

-- No clause is on a name that is declared anew. None is on the name of a state.
abbrev pub AreOffClauses : Renaming → (names : List (List ℕ)) → List Outline → Type 0
AreOffClauses renaming.Declared names ss = some_is_on names ss ≡ false
AreOffClauses renaming.State names ss = ⊤

-- The clauses of the items `ts` are those of the items `ss`, and as much is found at them. So it is
-- of the order of items, if they are of the same kinds.
pub record FindsAlike (ss ts : List Outline) : Type 0 where
  pub clauses : clauses_of ts ≡ clauses_of ss
  pub sound : soundness ts ≡ soundness ss
  pub at_clauses : clause_faults ts ≡ clause_faults ss
  pub order : (ks : List ItemKind) → order_faults (record { outlines = ts; kinds = ks }) ≡ order_faults (record { outlines = ss; kinds = ks })

-- The clauses of the items `ts` say of the same declarations what those of the items `ss` say, and
-- the same declarations are event flags.
pub record ClausesAlike (ss ts : List Outline) : Type 0 where
  pub clauses : clause_links ts ≡ clause_links ss
  pub flags : flags_of ts ≡ flags_of ss
  pub monitored : (variable : ℕ) (element : Option ℕ) → is_monitored ts variable element ≡ is_monitored ss variable element
  pub syncs : (variable : ℕ) (element : Option ℕ) → sync_number ts variable element ≡ sync_number ss variable element
