-- The lines of a text, by where they end.
use Rattle.std.specs.Prelude.{ℕ, List, length, slice_index_or}
use Rattle.snl_lex.specs.LineList.{ends_before, line_begin, line_ends}
use Rattle.snl_lex.specs.Lines.{part_of}

-- Where the line ends before which so many lines end: at its LF, or where the text ends.
abbrev pub line_stop : (text ends : List ℕ) → (count : ℕ) → ℕ
line_stop text ends count = slice_index_or ends count (length text)

-- The line before which so many lines end, without its LF.
abbrev pub line_after : (text ends : List ℕ) → (count : ℕ) → List ℕ
line_after text ends count = part_of text (line_begin ends count) (line_stop text ends count)

-- The line that has the byte at an offset.
unfoldable pub line_around : List ℕ → ℕ → List ℕ
line_around text offset = line_after text (line_ends text) (ends_before (line_ends text) offset)
