-- The rows of tables after an edit that shifts what they point to, by what becomes of lines: `line`
-- says it of the line of an offset.
use Rattle.std.specs.Prelude.{ℕ, map, option_map}
use Rattle.snl_lex.specs.declared.lines.Line.{Line}
use Rattle.snl_lex.specs.declared.shift.Shift.{Shift}
use Rattle.snl_tables.specs.declared.rows.SetRow.{SetRow}
use Rattle.snl_tables.specs.declared.rows.StateRow.{StateRow}
use Rattle.snl_tables.specs.declared.rows.Tables.{Tables}
use Rattle.snl_tables.specs.Shifted.{shifted_channel, shifted_destination, shifted_flag, shifted_named, shifted_span}

-- The line of an item moves as that of its name.
abbrev pub moved_state : Shift → (ℕ → Line → Line) → StateRow → StateRow
moved_state s line row = record {
  name = shifted_span s row.name;
  line = line row.name.start row.line;
  mark = row.mark;
  options = row.options;
  transitions = map (shifted_destination s) row.transitions;
  gotos = map (shifted_named s) row.gotos;
  wake = row.wake;
}

abbrev pub moved_set : Shift → (ℕ → Line → Line) → SetRow → SetRow
moved_set s line row = record {
  name = shifted_span s row.name;
  line = line row.name.start row.line;
  states = map (moved_state s line) row.states;
}

abbrev pub moved_tables : Shift → (ℕ → Line → Line) → Tables → Tables
moved_tables s line t = record {
  program = option_map (shifted_span s) t.program;
  options = t.options;
  flags = map (shifted_flag s) t.flags;
  channels = map (shifted_channel s) t.channels;
  variables = t.variables;
  sets = map (moved_set s line) t.sets;
}
