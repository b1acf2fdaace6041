-- The parts of answers that are told by plain values.
use Rattle.std.specs.Prelude.{ℕ, ◌/◌, ◌%◌, ◌&&◌, ◌++◌, List, [], ◌∷◌, take, drop, flat_map, Option, Some, None, nat_le, if◌then◌else◌, codes, decimal}
use Rattle.std.specs.Char.{digit_char}
use Rattle.std.specs.List.{concat}

-- So many bytes of a text from an offset on.
abbrev pub slice_of : (text : List ℕ) (start len : ℕ) → List ℕ
slice_of text start len = take len (drop start text)

-- A byte of a file's name: one outside 32 to 126 is `\x` and two lower-case hexadecimal digits.
abbrev pub escaped : ℕ → List ℕ
escaped byte = if nat_le 32 byte && nat_le byte 126 then byte ∷ [] else 92 ∷ 120 ∷ digit_char (byte / 16) ∷ digit_char (byte % 16) ∷ []

-- `FILE:`.
abbrev pub name_text : List ℕ → List ℕ
name_text name = flat_map escaped name ++ codes ":"

-- `FILE:`, where a line marker names the file of the line.
abbrev pub file_text : (text : List ℕ) → Option (ℕ × ℕ) → List ℕ
file_text text None = []
file_text text (Some file) = name_text (slice_of text file.0 file.1)

-- ` 'BYTES'`, where bytes are quoted.
abbrev pub quoted : List ℕ → List ℕ
quoted [] = []
quoted (b ∷ bytes) = concat (codes " '" ∷ (b ∷ bytes) ∷ codes "'" ∷ [])

-- `errors E warnings W`.
abbrev pub sum_text : (errors warnings : ℕ) → List ℕ
sum_text errors warnings = concat (codes "errors " ∷ decimal errors ∷ codes " warnings " ∷ decimal warnings ∷ codes "\n" ∷ [])

-- `work lexed L parsed P checked C`.
abbrev pub counts_text : (lexed parsed checked : ℕ) → List ℕ
counts_text lexed parsed checked = concat (codes "work lexed " ∷ decimal lexed ∷ codes " parsed " ∷ decimal parsed ∷ codes " checked " ∷ decimal checked ∷ codes "\n" ∷ [])
