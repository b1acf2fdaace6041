-- How numbers are written, by their parts: integers, and floating numbers.
use Rattle.std.specs.Prelude.{◌≡◌, ◌⊎◌, ℕ, ◌+◌, ◌^◌, ◌<◌, true, List, [], ◌∷◌, ◌++◌, codes, length, slice_index}
use Rattle.std.specs.Str.Parse.{AllDigits, IsNumeral, digits_value}
use Rattle.snl_lex.specs.Alphabet.{is_digit}

-- The bytes are one of these spellings.
abbrev pub IsOneOf : List ℕ → List (List ℕ) → Type 0
IsOneOf bytes [] = ⊥
IsOneOf bytes (s ∷ ss) = (bytes ≡ s) ⊎ IsOneOf bytes ss

-- What says that an integer is unsigned, and that it is long: or nothing.
abbrev pub unsigned_marks : List (List ℕ)
unsigned_marks = [] ∷ codes "u" ∷ codes "U" ∷ []

abbrev pub long_marks : List (List ℕ)
long_marks = [] ∷ codes "l" ∷ codes "L" ∷ codes "ll" ∷ codes "LL" ∷ []

-- What an integer ends with: the two marks in either order.
pub data EndsInteger : List ℕ → Type 0 where
  unsigned_first : (u l : List ℕ) → IsOneOf u unsigned_marks → IsOneOf l long_marks → EndsInteger (u ++ l)
  long_first : (l u : List ℕ) → IsOneOf l long_marks → IsOneOf u unsigned_marks → EndsInteger (l ++ u)

-- The bytes are an integer of a value below 2^64: decimal digits of which the first is no `0`; a
-- `0` and any octal digits; `0x` or `0X` and hexadecimal digits.
pub data IsInteger : ℕ → List ℕ → Type 0 where
  decimal : (digits suffix : List ℕ) → IsNumeral 10 digits → (slice_index digits 0 ≡ 48 → ⊥) → digits_value 10 digits < 2 ^ 64 → EndsInteger suffix
      → IsInteger (digits_value 10 digits) (digits ++ suffix)
  octal : (digits suffix : List ℕ) → AllDigits 8 digits → digits_value 8 digits < 2 ^ 64 → EndsInteger suffix → IsInteger (digits_value 8 digits) (48 ∷ digits ++ suffix)
  hexadecimal : (x digits suffix : List ℕ) → IsOneOf x (codes "0x" ∷ codes "0X" ∷ []) → IsNumeral 16 digits → digits_value 16 digits < 2 ^ 64 → EndsInteger suffix
      → IsInteger (digits_value 16 digits) (x ++ (digits ++ suffix))

-- An exponent: `e` or `E`, perhaps a sign, and digits.
pub data IsExponent : List ℕ → Type 0 where
  exponent : (e sign digits : List ℕ) → IsOneOf e (codes "e" ∷ codes "E" ∷ []) → IsOneOf sign ([] ∷ codes "+" ∷ codes "-" ∷ []) → IsNumeral 10 digits → IsExponent (e ++ (sign ++ digits))

-- What a floating number ends with.
abbrev pub float_marks : List (List ℕ)
float_marks = [] ∷ codes "f" ∷ codes "F" ∷ codes "l" ∷ codes "L" ∷ []

-- The bytes are a floating number: digits with one dot before, in or after them, and perhaps an
-- exponent; or digits and an exponent.
pub data IsFloating : List ℕ → Type 0 where
  with_dot : (whole fraction power suffix : List ℕ) → AllDigits 10 whole → AllDigits 10 fraction → 0 < length whole + length fraction → (power ≡ []) ⊎ IsExponent power → IsOneOf suffix float_marks
      → IsFloating (whole ++ (46 ∷ fraction ++ (power ++ suffix)))
  without_dot : (whole power suffix : List ℕ) → IsNumeral 10 whole → IsExponent power → IsOneOf suffix float_marks → IsFloating (whole ++ (power ++ suffix))

-- A number begins the text: a digit, or a dot and a digit.
abbrev pub BeginsNumber : List ℕ → Type 0
BeginsNumber text = (is_digit (slice_index text 0) ≡ true) ⊎ ((slice_index text 0 ≡ 46) × (is_digit (slice_index text 1) ≡ true))
