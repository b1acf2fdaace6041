-- Line markers that name a file, as they are written, and the file of an offset.
use Rattle.std.specs.Prelude.{◌≡◌, ℕ, ◌<◌, ◌≤◌, true, List, [], ◌∷◌, ◌++◌, codes, drop, length, take, All, Option}
use Rattle.std.specs.List.{list_all}
use Rattle.std.specs.Option.{option_map}
use Rattle.std.specs.Str.Parse.{IsNumeral, digits_value}
use Rattle.snl_lex.specs.Alphabet.{is_gap}
use Rattle.snl_lex.specs.LineList.{names}
use Rattle.snl_lex.specs.Lines.{line_at}
use Rattle.snl_lex.specs.Pieces.{piece_end, pieces_of}

-- What comes before a marker's number: `#`, spaces and tabs, and perhaps `line` with at least one
-- of them after it.
pub data IsMarkerHead : List ℕ → Type 0 where
  plain : (gap : List ℕ) → list_all is_gap gap ≡ true → IsMarkerHead (35 ∷ gap)
  with_word : (gap after : List ℕ) → list_all is_gap gap ≡ true → list_all is_gap after ≡ true → 0 < length after → IsMarkerHead (35 ∷ gap ++ (codes "line" ++ after))

-- What may be between the quotes of a file's name: any bytes but LF, each quote after a backslash
-- of its own. A backslash takes the byte after it.
pub data IsQuoted : List ℕ → Type 0 where
  none : IsQuoted []
  byte : (b : ℕ) (bs : List ℕ) → (b ≡ 34 → ⊥) → (b ≡ 92 → ⊥) → (b ≡ 10 → ⊥) → IsQuoted bs → IsQuoted (b ∷ bs)
  taken : (b : ℕ) (bs : List ℕ) → (b ≡ 10 → ⊥) → IsQuoted bs → IsQuoted (92 ∷ b ∷ bs)

-- A marker of this number and this file: after the number spaces and tabs, and the file's name
-- between quotes. Whatever follows is skipped.
pub data IsNaming : ℕ → List ℕ → List ℕ → Type 0 where
  marker : (head digits gap file rest : List ℕ) → IsMarkerHead head → IsNumeral 10 digits → length digits ≤ 10 → digits_value 10 digits ≤ 2147483647 → list_all is_gap gap ≡ true → 0 < length gap → IsQuoted file
      → IsNaming (digits_value 10 digits) file (head ++ (digits ++ (gap ++ (34 ∷ file ++ (34 ∷ rest)))))

-- The bytes at a place of the text that is told by where it begins and how long it is.
abbrev pub bytes_of : List ℕ → Option (ℕ × ℕ) → Option (List ℕ)
bytes_of text place = option_map (λ f. take f.1 (drop f.0 text)) place

-- The name of an offset's file, as the text has it.
abbrev pub file_name_at : List ℕ → ℕ → Option (List ℕ)
file_name_at text offset = bytes_of text (line_at text offset).file

-- Of the markers that end after a place, set a line and name a file, none does so before an offset.
abbrev pub NoneNames : List ℕ → ℕ → ℕ → Type 0
NoneNames text place offset = All (λ q. names text q ≡ true → place < piece_end q → offset ≤ piece_end q) (pieces_of text)
