-- What an edit inside an item changes in the rows, and what is found in the states by them.
use Rattle.std.specs.Prelude.{ℕ, List, [], Option, None, Some, if◌then◌else◌, map, nat_eq, option_and_then, slice_get}
use Rattle.std.specs.List.{flat_map}
use Rattle.std.specs.Option.{option_map_or}
use Rattle.snl_lex.specs.declared.shift.Shift.{Shift}
use Rattle.snl_summary.specs.declared.summary.Outline.{Outline}
use Rattle.snl_tables.specs.declared.rows.Tables.{Tables}
use Rattle.snl_tables.specs.declared.rows.Span.{Span}
use Rattle.snl_tables.specs.declared.rows.StateMark.{StateMark}
use Rattle.snl_tables.specs.declared.rows.StateRow.{StateRow}
use Rattle.snl_tables.specs.Shifted.{changed_at, marked, shifted_state, with_body, with_marks, with_wake}
use Rattle.snl_item_check.specs.Items.{ProgramItem}
use Rattle.snl_moved.specs.ShiftedAround.{set_number, state_number}
use Rattle.snl_check.specs.States.{marks_of, state_body, wake_of}
use Rattle.snl_kept.specs.declared.found.findings.Finding.{Finding}
use Rattle.snl_kept.specs.declared.plan.RowPlace.{RowPlace}
use Rattle.snl_kept.specs.declared.plan.RowChange.{RowChange}
use Rattle.snl_kept.specs.declared.plan.RowChange.TheVariants as changes
use Rattle.snl_kept.specs.declared.ways.one_item.set_findings.NewName.{NewName}
use Rattle.snl_kept.specs.declared.ways.one_item.touched_rows.TouchedRows.{TouchedRows}
use Rattle.snl_kept.specs.declared.ways.one_item.touched_rows.TouchedRows.TheVariants as touched
use Rattle.snl_kept.specs.Tables.{found_at_name, found_at_set, found_at_state}

-- Where the row of item i is, which is a state of the set that item k begins.
abbrev pub place_in : List Outline → ℕ → ℕ → RowPlace
place_in ss k i = record { set = set_number ss k; state = state_number ss k i }

-- What an edit changes in the rows that makes item i, where it changes these.
abbrev pub change_told : List ℕ → List ProgramItem → List Outline → ℕ → ProgramItem → TouchedRows → RowChange
change_told text xs ss i x touched.Nothing = changes.Nothing
change_told text xs ss i x (touched.Body k) = changes.Body (place_in ss k i) (state_body text ss i x)
change_told text xs ss i x (touched.State k) = changes.State (place_in ss k i) (state_body text ss i x) (wake_of text xs ss i) (marks_of text xs ss k)
change_told text xs ss i x (touched.Marks k) = changes.Marks (set_number ss k) (marks_of text xs ss k)

-- The rows with the change.
abbrev pub with_row : Tables → RowChange → Tables
with_row t changes.Nothing = t
with_row t (changes.Body place body) = with_body t place.set place.state body
with_row t (changes.State place body wake marks) = with_marks (with_wake (with_body t place.set place.state body) place.set place.state wake) place.set marks
with_row t (changes.Marks set marks) = with_marks t set marks

-- The row of a state whose name is there.
abbrev pub with_own_name : Span → StateRow → StateRow
with_own_name name row = record row { name = name }

-- The rows of the states of a set, of which one may have another name.
abbrev pub named : Option NewName → List StateRow → List StateRow
named None rows = rows
named (Some own) rows = changed_at (with_own_name own.name) own.number rows

-- The row with a number among them.
abbrev pub named_at : Option NewName → ℕ → StateRow → StateRow
named_at None n row = row
named_at (Some own) n row = if nat_eq n own.number then with_own_name own.name row else row

-- What is found in a set after an edit that shifts the rows, where its states have these marks, and
-- one may have another name.
abbrev pub found_by_marks : Shift → Option NewName → List StateMark → Tables → ℕ → List Finding
found_by_marks s own marks t k = option_map_or (λ row. flat_map found_at_state (marked marks (named own (map (shifted_state s) row.states)))) (slice_get t.sets k) []

-- The row of a state, if it has one there.
abbrev pub row_at : Tables → RowPlace → Option StateRow
row_at t place = option_and_then (λ row. slice_get row.states place.state) (slice_get t.sets place.set)

-- What was found in the states whose rows change.
abbrev pub gone_of : Tables → RowChange → List Finding
gone_of t changes.Nothing = []
gone_of t (changes.Body place body) = option_map_or found_at_state (row_at t place) []
gone_of t (changes.State place body wake marks) = found_at_set t place.set
gone_of t (changes.Marks set marks) = found_at_set t set

-- What is found in them after the change, where the rows are shifted.
abbrev pub come_of : Shift → Tables → RowChange → List Finding
come_of s t changes.Nothing = []
come_of s t (changes.Body place body) = option_map_or (λ row. found_at_name row.mark body.name) (row_at t place) []
come_of s t (changes.State place body wake marks) = found_by_marks s (Some (record { number = place.state; name = body.name })) marks t place.set
come_of s t (changes.Marks set marks) = found_by_marks s None marks t set
