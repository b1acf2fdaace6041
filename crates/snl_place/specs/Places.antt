-- Places in a text, as the Language Server Protocol counts them.
use Rattle.std.specs.Prelude.{◌≡◌, ◌≢◌, ℕ, ◌+◌, ◌-◌, ◌<◌, ◌≤◌, ◌==◌, ◌⊎◌, List, [], ◌∷◌}
use Rattle.std.specs.Prelude.{Bool, not, ◌&&◌, ◌||◌, if◌then◌else◌, nat_lt}
use Rattle.std.specs.Prelude.{Option, Some, None, slice_get, All}
use Rattle.snl_place.specs.declared.places.Encoding.{Encoding}
use Rattle.snl_place.specs.declared.places.Encoding.TheVariants.{Utf8, Utf16}
use Rattle.snl_place.specs.declared.places.Place.{Place}

-- How many code units a byte counts. A character's are all counted at its first byte.
abbrev pub units : Encoding → ℕ → ℕ
units Utf8 b =
    if nat_lt b 128 then 1
    else if nat_lt b 192 then 0
    else if nat_lt b 224 then 2
    else if nat_lt b 240 then 3
    else 4
units Utf16 b =
    if nat_lt b 128 then 1
    else if nat_lt b 192 then 0
    else if nat_lt b 240 then 1
    else 2

-- A line ends at this byte: LF, or a CR with an LF after it.
abbrev pub ends_line : ℕ → (next : Option ℕ) → Bool
ends_line b None = b == 10
ends_line b (Some next) = (b == 10) || ((b == 13) && (next == 10))

-- The place after a byte and some others, by the place after those others.
abbrev pub onto : Encoding → ℕ → Place → Place
onto encoding b place = record {
  line = if b == 10 then place.line + 1 else place.line;
  character =
      if (place.line == 0) && not (b == 10) then units encoding b + place.character
      else place.character;
}

-- The place after these bytes.
abbrev pub place_in : Encoding → List ℕ → Place
place_in encoding [] = record { line = 0; character = 0 }
place_in encoding (b ∷ bytes) = onto encoding b (place_in encoding bytes)

-- So many units end at this byte: they end in its character, or the line ends here.
abbrev pub stops : Encoding → (character : ℕ) → ℕ → (next : Option ℕ) → Bool
stops encoding character b next = nat_lt character (units encoding b) || ends_line b next

-- The offset of a place, of so many lines and then so many units, among these bytes.
abbrev pub offset_in : Encoding → (line character : ℕ) → List ℕ → ℕ
offset_in encoding line character [] = 0
offset_in encoding line character (b ∷ bytes) =
    if line == 0 then (
    if stops encoding character b (slice_get bytes 0) then 0
    else 1 + offset_in encoding 0 (character - units encoding b) bytes
    ) else 1 + offset_in encoding (if b == 10 then line - 1 else line) character bytes

-- The offset is not that between the CR and the LF of a line's end.
abbrev pub CutsNoLineEnd : List ℕ → ℕ → Type 0
CutsNoLineEnd text offset =
    (i : ℕ) → i + 1 ≡ offset → slice_get text i ≡ Some 13 → slice_get text offset ≢ Some 10

-- The first place is the second one or before it.
abbrev pub IsNotAfter : Place → Place → Type 0
IsNotAfter p q = (p.line < q.line) ⊎ ((p.line ≡ q.line) × (p.character ≤ q.character))

-- None of the characters is an LF.
abbrev pub IsOneLine : List ℕ → Type 0
IsOneLine characters = All (λ c. c ≢ 10) characters
