-- The tables and diagnostics of a text after edits that change no more than names, their places and
-- the bytes between.
use Rattle.std.specs.Prelude.{ℕ, ◌+◌, ◌-◌, List, map, option_map}
use Rattle.snl_lex.specs.declared.lines.Line.{Line}
use Rattle.snl_tables.specs.declared.rows.ChannelRow.{ChannelRow}
use Rattle.snl_tables.specs.declared.rows.Destination.{Destination}
use Rattle.snl_tables.specs.declared.rows.Destination.TheVariants as destinations
use Rattle.snl_tables.specs.declared.rows.FlagRow.{FlagRow}
use Rattle.snl_tables.specs.declared.rows.NamedState.{NamedState}
use Rattle.snl_tables.specs.declared.rows.ScopeName.{ScopeName}
use Rattle.snl_tables.specs.declared.rows.ScopeName.TheVariants as named
use Rattle.snl_tables.specs.declared.rows.SetRow.{SetRow}
use Rattle.snl_tables.specs.declared.rows.Span.{Span}
use Rattle.snl_tables.specs.declared.rows.StateRow.{StateRow}
use Rattle.snl_tables.specs.declared.rows.Tables.{Tables}
use Rattle.snl_alike.specs.declared.moves.Moves.{Moves}
use Rattle.snl_alike.specs.Edits.{Edit, edits_of, moved_start, moved_stop}

abbrev pub edits_in : Moves → List Edit
edits_in m = edits_of m.replacements.now

-- So many bytes from a place on become those from where it starts up to where they stop.
abbrev pub moved_len : List Edit → (start len : ℕ) → ℕ
moved_len es start len = moved_stop es (start + len) - moved_start es start

abbrev pub moved_span : List Edit → Span → Span
moved_span es s = record { start = moved_start es s.start; len = moved_len es s.start s.len }

abbrev pub moved_file : List Edit → ℕ × ℕ → ℕ × ℕ
moved_file es file = (moved_start es file.0, moved_len es file.0 file.1)

-- A line keeps its number.
abbrev pub moved_line : List Edit → Line → Line
moved_line es line = record { number = line.number; file = option_map (moved_file es) line.file }

abbrev pub moved_scope : List Edit → ScopeName → ScopeName
moved_scope es named.Program = named.Program
moved_scope es (named.StateSet set) = named.StateSet (moved_span es set)
moved_scope es (named.State set state) =
    named.State (option_map (moved_span es) set) (moved_span es state)

abbrev pub moved_flag : List Edit → FlagRow → FlagRow
moved_flag es row = record { name = moved_span es row.name; scope = moved_scope es row.scope }

abbrev pub moved_channel : List Edit → ChannelRow → ChannelRow
moved_channel es row = record {
  variable = moved_span es row.variable;
  element = row.element;
  scope = moved_scope es row.scope;
  pv = row.pv;
  is_monitored = row.is_monitored;
  sync = row.sync;
}

abbrev pub moved_named : List Edit → NamedState → NamedState
moved_named es row = record { name = moved_span es row.name; is_known = row.is_known }

abbrev pub moved_destination : List Edit → Destination → Destination
moved_destination es (destinations.State state) = destinations.State (moved_named es state)
moved_destination es destinations.Exit = destinations.Exit

abbrev pub moved_state : List Edit → StateRow → StateRow
moved_state es row = record {
  name = moved_span es row.name;
  line = moved_line es row.line;
  mark = row.mark;
  options = row.options;
  transitions = map (moved_destination es) row.transitions;
  gotos = map (moved_named es) row.gotos;
  wake = row.wake;
}

abbrev pub moved_set : List Edit → SetRow → SetRow
moved_set es row = record {
  name = moved_span es row.name;
  line = moved_line es row.line;
  states = map (moved_state es) row.states;
}

abbrev pub moved_tables : List Edit → Tables → Tables
moved_tables es t = record {
  program = option_map (moved_span es) t.program;
  options = t.options;
  flags = map (moved_flag es) t.flags;
  channels = map (moved_channel es) t.channels;
  variables = t.variables;
  sets = map (moved_set es) t.sets;
}
