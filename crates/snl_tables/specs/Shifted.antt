-- The rows of tables after an edit that shifts what they point to, and changes no more than the
-- body of a state, what wakes it and what is known of the states of its set.
use Rattle.std.specs.Prelude.{ℕ, zero, suc, List, [], ◌∷◌, map, option_map}
use Rattle.snl_lex.specs.declared.shift.Shift.{Shift}
use Rattle.snl_lex.specs.Shift.{shifted_line, shifted_offset}
use Rattle.snl_tables.specs.declared.rows.ChannelRow.{ChannelRow}
use Rattle.snl_tables.specs.declared.rows.Destination.{Destination}
use Rattle.snl_tables.specs.declared.rows.Destination.TheVariants as destinations
use Rattle.snl_tables.specs.declared.rows.FlagRow.{FlagRow}
use Rattle.snl_tables.specs.declared.rows.NamedState.{NamedState}
use Rattle.snl_tables.specs.declared.rows.ScopeName.{ScopeName}
use Rattle.snl_tables.specs.declared.rows.ScopeName.TheVariants as named
use Rattle.snl_tables.specs.declared.rows.SetRow.{SetRow}
use Rattle.snl_tables.specs.declared.rows.Span.{Span}
use Rattle.snl_tables.specs.declared.rows.StateBody.{StateBody}
use Rattle.snl_tables.specs.declared.rows.StateMark.{StateMark}
use Rattle.snl_tables.specs.declared.rows.StateRow.{StateRow}
use Rattle.snl_tables.specs.declared.rows.Tables.{Tables}
use Rattle.snl_tables.specs.declared.rows.WakeUp.{WakeUp}

abbrev pub shifted_span : Shift → Span → Span
shifted_span s span = record { start = shifted_offset s span.start; len = span.len }

abbrev pub shifted_scope : Shift → ScopeName → ScopeName
shifted_scope s named.Program = named.Program
shifted_scope s (named.StateSet set) = named.StateSet (shifted_span s set)
shifted_scope s (named.State set state) = named.State (option_map (shifted_span s) set) (shifted_span s state)

abbrev pub shifted_flag : Shift → FlagRow → FlagRow
shifted_flag s row = record { name = shifted_span s row.name; scope = shifted_scope s row.scope }

abbrev pub shifted_channel : Shift → ChannelRow → ChannelRow
shifted_channel s row = record {
  variable = shifted_span s row.variable;
  element = row.element;
  scope = shifted_scope s row.scope;
  pv = row.pv;
  is_monitored = row.is_monitored;
  sync = row.sync;
}

abbrev pub shifted_named : Shift → NamedState → NamedState
shifted_named s row = record { name = shifted_span s row.name; is_known = row.is_known }

abbrev pub shifted_destination : Shift → Destination → Destination
shifted_destination s (destinations.State state) = destinations.State (shifted_named s state)
shifted_destination s destinations.Exit = destinations.Exit

-- The line of an item is shifted as that of its name.
abbrev pub shifted_state : Shift → StateRow → StateRow
shifted_state s row = record {
  name = shifted_span s row.name;
  line = shifted_line s row.name.start row.line;
  mark = row.mark;
  options = row.options;
  transitions = map (shifted_destination s) row.transitions;
  gotos = map (shifted_named s) row.gotos;
  wake = row.wake;
}

abbrev pub shifted_set : Shift → SetRow → SetRow
shifted_set s row = record {
  name = shifted_span s row.name;
  line = shifted_line s row.name.start row.line;
  states = map (shifted_state s) row.states;
}

-- A list of which the element with a number is changed.
abbrev pub changed_at : {X : Type 0} → (X → X) → ℕ → List X → List X
changed_at f n [] = []
changed_at f zero (x ∷ xs) = f x ∷ xs
changed_at f (suc n) (x ∷ xs) = x ∷ changed_at f n xs

-- The row of a state that has another body. It keeps its mark and what wakes it.
abbrev pub with_own_body : StateBody → StateRow → StateRow
with_own_body body row = record {
  name = body.name;
  line = body.line;
  mark = row.mark;
  options = body.options;
  transitions = body.transitions;
  gotos = body.gotos;
  wake = row.wake;
}

abbrev pub with_body_in : ℕ → StateBody → SetRow → SetRow
with_body_in number body row = record row { states = changed_at (with_own_body body) number row.states }

-- The tables with another body of one state, by the number of its set and its own number among the
-- states of the set.
abbrev pub with_body : Tables → ℕ → ℕ → StateBody → Tables
with_body t set number body = record t { sets = changed_at (with_body_in number body) set t.sets }

-- The row of a state with what wakes it.
abbrev pub with_own_wake : List WakeUp → StateRow → StateRow
with_own_wake wake row = record row { wake = wake }

abbrev pub with_wake_in : ℕ → List WakeUp → SetRow → SetRow
with_wake_in number wake row = record row { states = changed_at (with_own_wake wake) number row.states }

-- The tables with what wakes one state, by the number of its set and its own number among the
-- states of the set.
abbrev pub with_wake : Tables → ℕ → ℕ → List WakeUp → Tables
with_wake t set number wake = record t { sets = changed_at (with_wake_in number wake) set t.sets }

-- The row of a state with what is known of it.
abbrev pub with_own_mark : StateMark → StateRow → StateRow
with_own_mark m row = record row { mark = m }

-- Rows of states with these marks, one by one, as far as there are both.
abbrev pub marked : List StateMark → List StateRow → List StateRow
marked (m ∷ ms) (row ∷ rows) = with_own_mark m row ∷ marked ms rows
marked _ rows = rows

abbrev pub with_marks_in : List StateMark → SetRow → SetRow
with_marks_in marks row = record row { states = marked marks row.states }

-- The tables with other marks of the states of one set, by the set's number.
abbrev pub with_marks : Tables → ℕ → List StateMark → Tables
with_marks t set marks = record t { sets = changed_at (with_marks_in marks) set t.sets }
