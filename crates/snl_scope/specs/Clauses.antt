-- The clauses of a text: what their names resolve to, which of them are sound, and what is found at
-- them.
use Rattle.std.specs.Prelude.{ℕ, zero, suc, Bool, true, false, not, ◌&&◌, if◌then◌else◌, List, [], ◌∷◌, ◌++◌, map, length, slice_get, nat_eq, nat_lt, Option, None, Some, is_some, option_and_then, option_to_list}
use Rattle.std.specs.List.{list_any, zip}
use Rattle.std.specs.Option.{option_map_or, option_or}
use Rattle.snl_codes.specs.declared.code.Code.{Code}
use Rattle.snl_codes.specs.declared.code.Code.TheVariants.{E11, E12, E13, E14, E15, E16, E22, W05}
use Rattle.snl_scope.specs.declared.facts.Assigned.{Assigned}
use Rattle.snl_scope.specs.declared.facts.Assigned.TheVariants as assigned
use Rattle.snl_scope.specs.declared.facts.ClauseLink.{ClauseLink}
use Rattle.snl_scope.specs.declared.facts.LinkFault.{LinkFault}
use Rattle.snl_scope.specs.declared.names.namespaces.Namespace.TheVariants as namespace
use Rattle.snl_summary.specs.declared.summary.ClauseKind.{ClauseKind}
use Rattle.snl_summary.specs.declared.summary.ClauseKind.TheVariants as kind
use Rattle.snl_summary.specs.declared.summary.Coverage.{Coverage}
use Rattle.snl_summary.specs.declared.summary.Coverage.TheVariants as coverage
use Rattle.snl_summary.specs.declared.summary.Dims.{Dims}
use Rattle.snl_summary.specs.declared.summary.Dims.TheVariants as dims
use Rattle.snl_summary.specs.declared.summary.NameRef.{NameRef}
use Rattle.snl_summary.specs.declared.summary.SymbolKind.{SymbolKind}
use Rattle.snl_summary.specs.declared.summary.SymbolKind.TheVariants as symbol_kind
use Rattle.snl_summary.specs.declared.summary.Outline.{Outline}
use Rattle.snl_summary.specs.declared.summary.Variable.{Variable}
use Rattle.snl_summary.specs.declared.summary.VariableClause.{VariableClause}
use Rattle.snl_codes.specs.Codes.{is_error}
use Rattle.snl_scope.specs.Names.{Entry, entries, number_in, resolve}
use Rattle.snl_scope.specs.Places.{enclosing_set}

-- The number of the entry that a name outside the blocks of item i resolves to. A state's own scope
-- comes first; an item that is none has nothing in such a scope.
abbrev pub resolve_in : List Outline → ℕ → List ℕ → Option ℕ
resolve_in ss i name = option_or (number_in (entries ss) (namespace.State i) name) (resolve (entries ss) (enclosing_set ss i) name)

-- A clause in a text: the item that it is in, and the numbers of the entries that its variable and
-- its flag resolve to.
pub record LinkedClause : Type 0 where
  pub item : ℕ
  pub clause : VariableClause
  pub variable : Option ℕ
  pub flag : Option ℕ

abbrev pub linked_clause : List Outline → ℕ → VariableClause → LinkedClause
linked_clause ss i c = record {
  item = i;
  clause = c;
  variable = resolve_in ss i c.variable.name;
  flag = option_and_then (λ m. resolve_in ss i m.name) c.flag;
}

-- The clauses of the first n items, and of all, in the order of the text.
abbrev pub clauses_before : List Outline → ℕ → List LinkedClause
clauses_before ss zero = []
clauses_before ss (suc n) = clauses_before ss n ++ option_map_or (λ s. map (linked_clause ss n) s.clauses) (slice_get ss n) []

abbrev pub clauses_of : List Outline → List LinkedClause
clauses_of ss = clauses_before ss (length ss)

-- What the declaration with a number says.
abbrev pub variable_at : List Entry → Option ℕ → Option Variable
variable_at es None = None
variable_at es (Some number) = option_and_then (λ e. e.variable) (slice_get es number)

abbrev pub is_assign : ClauseKind → Bool
is_assign kind.Assign = true
is_assign _ = false

-- `sync` and `syncq` are of one kind here.
abbrev pub same_kind : ClauseKind → ClauseKind → Bool
same_kind kind.Assign kind.Assign = true
same_kind kind.Monitor kind.Monitor = true
same_kind kind.Sync kind.Sync = true
same_kind kind.Sync kind.Syncq = true
same_kind kind.Syncq kind.Sync = true
same_kind kind.Syncq kind.Syncq = true
same_kind _ _ = false

-- Both are the number of one declaration.
abbrev pub same_number : Option ℕ → Option ℕ → Bool
same_number (Some a) (Some b) = nat_eq a b
same_number _ _ = false

-- A channel can be assigned to it.
abbrev pub is_assignable : SymbolKind → Bool
is_assignable symbol_kind.Assignable = true
is_assignable _ = false

abbrev pub is_event_flag : SymbolKind → Bool
is_event_flag symbol_kind.EventFlag = true
is_event_flag _ = false

-- What a clause covers does not fit the variable: a subscript or a list on a plain one, a subscript
-- that is not below the known length, or a list that is longer.
abbrev pub misfits : Dims → Coverage → Bool
misfits dims coverage.Whole = false
misfits dims.Plain _ = true
misfits (dims.Known n) (coverage.Element k) = not (nat_lt k n)
misfits (dims.Known n) (coverage.Front k) = nat_lt n k
misfits dims.Unknown _ = false

-- Two clauses cover a common element, or one of them covers the whole.
abbrev pub overlaps : Coverage → Coverage → Bool
overlaps coverage.Whole _ = true
overlaps _ coverage.Whole = true
overlaps (coverage.Element a) (coverage.Element b) = nat_eq a b
overlaps (coverage.Element a) (coverage.Front k) = nat_lt a k
overlaps (coverage.Front k) (coverage.Element b) = nat_lt b k
overlaps (coverage.Front k) (coverage.Front m) = nat_lt 0 k && nat_lt 0 m

-- Two clauses of one kind on one variable that overlap.
abbrev pub clash : LinkedClause → LinkedClause → Bool
clash c d = same_kind c.clause.kind d.clause.kind && same_number c.variable d.variable && overlaps c.clause.coverage d.clause.coverage

-- The clause assigns the declaration with this number, sound or not.
abbrev pub assigns : Option ℕ → LinkedClause → Bool
assigns number c = is_assign c.clause.kind && same_number number c.variable

-- What a clause gives that overlaps an earlier sound one of its kind on its variable.
abbrev pub repetition_code : ClauseKind → Code
repetition_code kind.Assign = E12
repetition_code kind.Monitor = W05
repetition_code kind.Sync = E22
repetition_code kind.Syncq = E22

-- What a clause gives at its variable, by the clauses of the text and the sound ones before it: the
-- first rule that holds.
abbrev pub code_on : List LinkedClause → List LinkedClause → LinkedClause → Variable → Option Code
code_on cs sound c v =
    if is_assign c.clause.kind && not (is_assignable v.symbol_kind) then Some E15
    else if misfits v.dims c.clause.coverage then Some E16
    else if not (is_assign c.clause.kind) && not (list_any (assigns c.variable) cs) then Some E13
    else if list_any (clash c) sound then Some (repetition_code c.clause.kind)
    else None

abbrev pub variable_code : List Entry → List LinkedClause → List LinkedClause → LinkedClause → Option Code
variable_code es cs sound c = option_map_or (code_on cs sound c) (variable_at es c.variable) (Some E11)

-- The clause names a flag that resolves to no event flag.
abbrev pub has_wrong_flag : List Entry → LinkedClause → Bool
has_wrong_flag es c = is_some c.clause.flag && not (option_map_or (λ v. is_event_flag v.symbol_kind) (variable_at es c.flag) false)

-- A clause is sound if it gives no error.
abbrev pub is_sound : List Entry → List LinkedClause → List LinkedClause → LinkedClause → Bool
is_sound es cs sound c = not (option_map_or is_error (variable_code es cs sound c) false) && not (has_wrong_flag es c)

-- The sound clauses so far, with a further clause.
abbrev pub with_clause : List Entry → List LinkedClause → List LinkedClause → LinkedClause → List LinkedClause
with_clause es cs sound c = if is_sound es cs sound c then sound ++ c ∷ [] else sound

-- The sound clauses, after the sound ones before them.
abbrev pub sound_after : List Entry → List LinkedClause → List LinkedClause → List LinkedClause → List LinkedClause
sound_after es cs sound [] = sound
sound_after es cs sound (d ∷ ds) = sound_after es cs (with_clause es cs sound d) ds

abbrev pub sound_clauses : List Outline → List LinkedClause
sound_clauses ss = sound_after (entries ss) (clauses_of ss) [] (clauses_of ss)

-- Of each clause whether it is sound, after the sound ones before them.
abbrev pub soundness_after : List Entry → List LinkedClause → List LinkedClause → List LinkedClause → List Bool
soundness_after es cs sound [] = []
soundness_after es cs sound (d ∷ ds) = is_sound es cs sound d ∷ soundness_after es cs (with_clause es cs sound d) ds

-- Clauses, each with whether it is sound.
abbrev pub with_soundness : List Entry → List LinkedClause → List (LinkedClause × Bool)
with_soundness es cs = zip cs (soundness_after es cs [] cs)

abbrev pub soundness : List Outline → List Bool
soundness ss = soundness_after (entries ss) (clauses_of ss) [] (clauses_of ss)

-- A clause as links tell it.
abbrev pub clause_link : LinkedClause → Bool → ClauseLink
clause_link c is_sound = record {
  item = c.item;
  token = c.clause.variable.token;
  kind = c.clause.kind;
  coverage = c.clause.coverage;
  variable = c.variable;
  flag = c.flag;
  is_sound = is_sound;
}

-- All clauses of a text, each with its soundness.
abbrev pub clause_links : List Outline → List ClauseLink
clause_links ss = map (λ p. clause_link p.0 p.1) (zip (clauses_of ss) (soundness ss))

abbrev pub at_name_ref : ℕ → NameRef → Code → LinkFault
at_name_ref i m code = record { item = i; token = m.token; code = code }

-- What is found at a clause: at its variable, and E14 at its flag.
abbrev pub found_at_variable : List Entry → List LinkedClause → List LinkedClause → LinkedClause → List LinkFault
found_at_variable es cs sound c = map (at_name_ref c.item c.clause.variable) (option_to_list (variable_code es cs sound c))

abbrev pub found_at_flag : List Entry → LinkedClause → List LinkFault
found_at_flag es c = if has_wrong_flag es c then map (λ m. at_name_ref c.item m E14) (option_to_list c.clause.flag) else []

abbrev pub found_at : List Entry → List LinkedClause → List LinkedClause → LinkedClause → List LinkFault
found_at es cs sound c = found_at_variable es cs sound c ++ found_at_flag es c

-- What is found at clauses, after the sound ones before them.
abbrev pub found_after : List Entry → List LinkedClause → List LinkedClause → List LinkedClause → List LinkFault
found_after es cs sound [] = []
found_after es cs sound (d ∷ ds) = found_at es cs sound d ++ found_after es cs (with_clause es cs sound d) ds

-- E11 to E16, E22 and W05.
abbrev pub clause_faults : List Outline → List LinkFault
clause_faults ss = found_after (entries ss) (clauses_of ss) [] (clauses_of ss)

-- What a clause that assigns says of its variable.
abbrev pub assigned_as : Coverage → Assigned
assigned_as coverage.Whole = assigned.Whole
assigned_as _ = assigned.Elements

-- To what the declaration with a number is assigned: the first of its `assign` clauses says it,
-- sound or not.
abbrev pub assigned_by : List LinkedClause → ℕ → Assigned
assigned_by [] number = assigned.Unassigned
assigned_by (c ∷ cs) number = if assigns (Some number) c then assigned_as c.clause.coverage else assigned_by cs number
