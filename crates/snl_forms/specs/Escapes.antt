-- Bytes as the forms write them. What is no UTF-8 is written as `\x` and two digits.
use Rattle.std.specs.Prelude.{ℕ, zero, suc, ◌-◌, ◌/◌, ◌%◌, ◌==◌, ◌||◌, ◌++◌, Bool, List, [], ◌∷◌, Option, Some, None, codes, encode_utf8_all, flat_map, if◌then◌else◌, nat_lt, slice_index}
use Rattle.std.specs.Char.{digit_char, to_ascii_uppercase}
use Rattle.std.specs.Int.{is_in_range}
use Rattle.bstr.specs.Utf8.{decoded}
use Rattle.snl_forms.specs.declared.escape.Escape.{Escape}
use Rattle.snl_forms.specs.declared.escape.Escape.TheVariants.{Json, Property, Data}

-- Two hexadecimal digits.
abbrev pub two_digits : ℕ → List ℕ
two_digits b = digit_char (b / 16) ∷ digit_char (b % 16) ∷ []

-- `%` and two capital ones.
abbrev pub percented : ℕ → List ℕ
percented b =
    37 ∷ to_ascii_uppercase (digit_char (b / 16)) ∷ to_ascii_uppercase (digit_char (b % 16)) ∷ []

-- A character in a string of JSON.
abbrev pub json_char : ℕ → List ℕ
json_char c =
    if (c == 34) || (c == 92) then 92 ∷ c ∷ []
    else if nat_lt c 32 then codes "\\u00" ++ two_digits c
    else encode_utf8_all (c ∷ [])

-- In the text of an annotation, and in one of its properties.
abbrev pub data_char : ℕ → List ℕ
data_char c =
    if (c == 37) || ((c == 13) || (c == 10)) then percented c else encode_utf8_all (c ∷ [])

abbrev pub property_char : ℕ → List ℕ
property_char c = if (c == 58) || (c == 44) then percented c else data_char c

abbrev pub char_by : Escape → ℕ → List ℕ
char_by Json c = json_char c
char_by Property c = property_char c
char_by Data c = data_char c

abbrev pub byte_by : Escape → ℕ → List ℕ
byte_by Json b = codes "\\\\x" ++ two_digits b
byte_by Property b = codes "\\x" ++ two_digits b
byte_by Data b = codes "\\x" ++ two_digits b

-- How many bytes after the first one belong to the same character.
abbrev pub rest_of : Option ℕ → (size : ℕ) → ℕ
rest_of None size = 0
rest_of (Some c) size = size - 1

-- What is written for the first of some bytes, by how they are read.
abbrev pub written_as : Escape → Option ℕ → List ℕ → List ℕ
written_as how None bytes = byte_by how (slice_index bytes 0)
written_as how (Some c) bytes = char_by how c

-- The same, where so many bytes still belong to a character that is written already.
abbrev pub written_by : Escape → (inside : ℕ) → List ℕ → List ℕ
written_by how zero bytes = written_as how (decoded bytes).char bytes
written_by how (suc inside) bytes = []

abbrev pub inside_by : (inside : ℕ) → List ℕ → ℕ
inside_by zero bytes = rest_of (decoded bytes).char (decoded bytes).size
inside_by (suc inside) bytes = inside

unfoldable pub written_at : Escape → (inside : ℕ) → List ℕ → List ℕ
written_at how inside bytes = written_by how inside bytes

unfoldable pub inside_after : (inside : ℕ) → List ℕ → ℕ
inside_after inside bytes = inside_by inside bytes

abbrev pub written : Escape → (inside : ℕ) → List ℕ → List ℕ
written how inside [] = []
written how inside (b ∷ bytes) =
    written_at how inside (b ∷ bytes) ++ written how (inside_after inside (b ∷ bytes)) bytes

abbrev pub escaped : Escape → List ℕ → List ℕ
escaped how bytes = written how 0 bytes

-- A byte in the reference of a file.
abbrev pub is_plain : ℕ → Bool
is_plain b =
    is_in_range 48 57 b || (is_in_range 65 90 b || (is_in_range 97 122 b
    || ((b == 45) || ((b == 46) || ((b == 47) || ((b == 95) || (b == 126)))))))

abbrev pub uri_byte : ℕ → List ℕ
uri_byte b = if is_plain b then b ∷ [] else percented b

abbrev pub uri : List ℕ → List ℕ
uri bytes = flat_map uri_byte bytes
