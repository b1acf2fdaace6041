-- The tables of a text, which the text alone defines, and what is found of the states in them.
use Rattle.std.specs.Prelude.{ℕ, Bool, true, false, if◌then◌else◌, List, [], ◌∷◌, slice_get}
use Rattle.std.specs.List.{flat_map}
use Rattle.std.specs.Option.{option_map_or}
use Rattle.snl_codes.specs.declared.code.Code.TheVariants.{W02}
use Rattle.snl_tables.specs.declared.rows.SetRow.{SetRow}
use Rattle.snl_tables.specs.declared.rows.Span.{Span}
use Rattle.snl_tables.specs.declared.rows.StateMark.{StateMark}
use Rattle.snl_tables.specs.declared.rows.StateMark.TheVariants as mark
use Rattle.snl_tables.specs.declared.rows.StateRow.{StateRow}
use Rattle.snl_tables.specs.declared.rows.Tables.{Tables}
use Rattle.snl_check.specs.Tables.{tables_of}
use Rattle.snl_kept.specs.declared.found.findings.Finding.{Finding}
use Rattle.snl_kept.specs.Program.{ProgramItem, items_of}

-- The tables that its items give.
unfoldable pub tables_in : List ℕ → Tables
tables_in text = tables_of text (items_of text)

abbrev pub is_unreached : StateMark → Bool
is_unreached mark.Unreached = true
is_unreached _ = false

-- W02, at the name of a state.
abbrev pub at_name : Span → Finding
at_name name = record { offset = name.start; code = W02; subject = name.len }

-- A state that isn't reached, by its mark and where its name is.
abbrev pub found_at_name : StateMark → Span → List Finding
found_at_name m name = if is_unreached m then at_name name ∷ [] else []

abbrev pub found_at_state : StateRow → List Finding
found_at_state row = found_at_name row.mark row.name

abbrev pub found_in_set : SetRow → List Finding
found_in_set row = flat_map found_at_state row.states

-- What is found in the set with a number among the rows.
abbrev pub found_at_set : Tables → ℕ → List Finding
found_at_set tables k = option_map_or found_in_set (slice_get tables.sets k) []

-- What is found by the walks of the state sets of a text.
abbrev pub walked_in : Tables → List Finding
walked_in tables = flat_map found_in_set tables.sets

abbrev pub walked_faults : List ℕ → List ProgramItem → List Finding
walked_faults text xs = walked_in (tables_of text xs)
