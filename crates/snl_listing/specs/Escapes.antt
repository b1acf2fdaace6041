-- Bytes as a listing shows them.
use Rattle.std.specs.Prelude.{ℕ, ◌/◌, ◌%◌, ◌&&◌, Bool, List, [], ◌∷◌, nat_le, if◌then◌else◌}
use Rattle.std.specs.Char.{digit_char}
use Rattle.std.specs.List.{flat_map}

abbrev pub is_printable : ℕ → Bool
is_printable byte = nat_le 32 byte && nat_le byte 126

-- A byte outside 32 to 126 is shown as `\x` and two lower-case hexadecimal digits.
abbrev pub escaped_byte : ℕ → List ℕ
escaped_byte byte = if is_printable byte then byte ∷ [] else 92 ∷ 120 ∷ digit_char (byte / 16) ∷ digit_char (byte % 16) ∷ []

abbrev pub escaped : List ℕ → List ℕ
escaped bytes = flat_map escaped_byte bytes
