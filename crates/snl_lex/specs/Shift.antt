-- How an edit shifts what is outside the bytes that it replaces: offsets, pieces and lines.
use Rattle.std.specs.Prelude.{ℕ, ◌+◌, ◌-◌, ◌^◌, ◌<◌, ◌≤◌, ◌⊎◌, if◌then◌else◌, List, length, min, nat_lt, count_by}
use Rattle.snl_lex.specs.declared.lines.Line.{Line}
use Rattle.snl_lex.specs.declared.piece.Piece.{Piece}
use Rattle.snl_lex.specs.declared.shift.Shift.{Shift}
use Rattle.snl_lex.specs.Lines.{is_marker}
use Rattle.snl_lex.specs.PieceList.{piece_kinds}

-- The most that the machine counts to.
abbrev pub most : ℕ
most = 2 ^ 64 - 1

-- The offset after the edit: those before the edit stay.
abbrev pub shifted_offset : Shift → ℕ → ℕ
shifted_offset s offset = if nat_lt offset s.start then offset else min ((offset - s.old_stop) + s.new_stop) most

abbrev pub shifted_piece : Shift → Piece → Piece
shifted_piece s p = record { kind = p.kind; start = shifted_offset s p.start; len = p.len }

-- The line of an offset after the edit, by its line before it.
abbrev pub shifted_line : Shift → ℕ → Line → Line
shifted_line s offset line =
    if nat_lt offset s.start then line else record { number = min (line.number + s.new_lines) most - s.old_lines; file = line.file }

-- The offset is not one of the replaced bytes, and in the text or at its end.
abbrev pub IsOutside : List ℕ → Shift → ℕ → Type 0
IsOutside old s offset = (offset < s.start) ⊎ ((s.old_stop ≤ offset) × (offset ≤ length old))

-- How many of the pieces are line markers.
abbrev pub marker_count : List ℕ → ℕ
marker_count text = count_by is_marker (piece_kinds text)
