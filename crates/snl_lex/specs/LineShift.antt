-- How an edit before line markers shifts lines: up to the first line after it that a marker
-- numbers. The markers after it move with their bytes, so from there on each line keeps its number.
use Rattle.std.specs.Prelude.{◌≡◌, ℕ, ◌+◌, ◌-◌, ◌^◌, ◌<◌, ◌≤◌, ◌⊎◌, ◌||◌, All, if◌then◌else◌, List, drop, length, map, min, nat_le, nat_lt, option_map, slice_get, slice_index, take, Option, Some, None}
use Rattle.snl_cut.specs.Cut.{IsEdit}
use Rattle.snl_lex.specs.declared.marker_list.Marker.{Marker}
use Rattle.snl_lex.specs.declared.line_shift.LineShift.{LineShift}
use Rattle.snl_lex.specs.declared.lines.Line.{Line}
use Rattle.snl_lex.specs.declared.shift.Shift.{Shift}
use Rattle.snl_lex.specs.LineList.{naming_markers, setting_markers}
use Rattle.snl_lex.specs.Lines.{lines_between}
use Rattle.snl_lex.specs.Shift.{most, shifted_offset}

-- Where a file's name is after the edit.
abbrev pub shifted_file : Shift → Option (ℕ × ℕ) → Option (ℕ × ℕ)
shifted_file s file = option_map (λ f. (shifted_offset s f.0, f.1)) file

-- A marker after the edit, which keeps its number.
abbrev pub shifted_marker : Shift → Marker → Marker
shifted_marker s m = record { end = shifted_offset s m.end; number = m.number; file = shifted_file s m.file }

-- The line of an offset after the edit, by its line before it. Between the edit and the first line
-- that a marker after it numbers, lines are shifted.
abbrev pub moved_line : LineShift → ℕ → Line → Line
moved_line t offset line = record {
  number = if nat_lt offset t.by.start || nat_le t.until offset then line.number else min (line.number + t.by.new_lines) most - t.by.old_lines;
  file = shifted_file t.by line.file;
}

-- The marker numbers the line that begins at a place; without one, none begins in the text at it or
-- after it.
abbrev pub NumbersFrom : List ℕ → ℕ → Option Marker → Type 0
NumbersFrom old place None = length old < place
NumbersFrom old place (Some m) = (m.end + 1 ≡ place) × (m.end < length old → slice_index old m.end ≡ 10)

-- A line ends between a marker and a place: so the marker counts for all that comes after the
-- place, unless a later one does.
abbrev pub CountsAfter : List ℕ → ℕ → Marker → Type 0
CountsAfter text place m = 0 < lines_between text m.end place

-- A marker counts for all that comes after the edit, or is after it.
abbrev pub IsApart : List ℕ → Shift → Marker → Type 0
IsApart old s m = CountsAfter old s.start m ⊎ (s.old_stop ≤ m.end)

-- An edit of a text, with how many line ends it takes out and puts in. It is not at the beginning
-- of the text. The line markers stay, at their places or shifted: so many count for all that comes
-- after the edit, and those after them are after the edit, the first of which numbers the line at
-- `until`.
pub record IsLineShift (old text : List ℕ) (t : LineShift) : Type 0 where
  pub edit : IsEdit old text t.by.start t.by.old_stop t.by.new_stop
  pub some_before : 0 < t.by.start
  pub old_lines : t.by.old_lines ≡ lines_between old t.by.start t.by.old_stop
  pub new_lines : t.by.new_lines ≡ lines_between text t.by.start t.by.new_stop
  pub setting : setting_markers text ≡ map (shifted_marker t.by) (setting_markers old)
  pub naming : naming_markers text ≡ map (shifted_marker t.by) (naming_markers old)
  pub early : ℕ
  pub setting_before : All (CountsAfter old t.by.start) (take early (setting_markers old))
  pub setting_after : All (λ m. t.until ≤ m.end + 1) (drop early (setting_markers old))
  pub until_after : t.by.old_stop < t.until
  pub until_marker : NumbersFrom old t.until (slice_get (setting_markers old) early)
  pub naming_apart : All (IsApart old t.by) (naming_markers old)
  pub old_short : length old < 2 ^ 32
  pub short : length text < 2 ^ 32
