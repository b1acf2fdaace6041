-- Numbers as they are written, in three bases, and where a number ends.
use Rattle.std.specs.Prelude.{◌≡◌, ◌⊎◌, ℕ, Bool, true, false, ◌||◌, ◌==◌, List, [], ◌++◌, codes, if◌then◌else◌, slice_index}
use Rattle.std.specs.Fmt.{digits}
use Rattle.snl_lex.specs.Alphabet.{is_white, is_word_byte}

-- A zero, and octal digits.
abbrev pub octal : ℕ → List ℕ
octal v = codes "0" ++ digits 8 false v

-- `0x` or `0X`, and hexadecimal digits, of which the letters are capital or not.
abbrev pub hexadecimal : Bool → Bool → ℕ → List ℕ
hexadecimal capital_x capital_digits v = (if capital_x then codes "0X" else codes "0x") ++ digits 16 capital_digits v

-- The text begins with a byte that digits go on with: a letter, a digit, `_` or a dot.
abbrev pub goes_on_digits : List ℕ → Bool
goes_on_digits rest = is_word_byte (slice_index rest 0) || slice_index rest 0 == 46

-- After the number of a marker comes nothing, or white space.
abbrev pub EndsNumber : List ℕ → Type 0
EndsNumber rest = (rest ≡ []) ⊎ (is_white (slice_index rest 0) ≡ true)
