-- Columns of places in a text: bytes of the place's line.
use Rattle.std.specs.Prelude.{◌≡◌, ℕ, ◌+◌, ◌==◌, ◌≤◌, List, [], ◌∷◌, length, take, if◌then◌else◌}
use Rattle.snl_excerpt.specs.declared.column.Cursor.{Cursor}

-- How many bytes of a line are before the place after a byte.
abbrev pub counted : (before : ℕ) → (byte : ℕ) → ℕ
counted before byte = if byte == 10 then 0 else before + 1

-- The same after some bytes.
abbrev pub counted_on : (before : ℕ) → List ℕ → ℕ
counted_on before [] = before
counted_on before (b ∷ bytes) = counted_on (counted before b) bytes

-- How many bytes of its line are before a place.
unfoldable pub bytes_before : (text : List ℕ) → (offset : ℕ) → ℕ
bytes_before text offset = counted_on 0 (take offset text)

-- The column of a place with so many bytes of its line before it.
abbrev pub column_after : ℕ → ℕ
column_after before = before + 1

-- The column of a place: the first byte of a line has 1.
abbrev pub column_of : (text : List ℕ) → (offset : ℕ) → ℕ
column_of text offset = column_after (bytes_before text offset)

-- The cursor is at a place of the text.
pub record IsCursor (text : List ℕ) (cursor : Cursor) : Type 0 where
  pub inside : cursor.offset ≤ length text
  pub before : cursor.before ≡ bytes_before text cursor.offset
  pub few : cursor.before ≤ cursor.offset
