-- Numbers: how far a number run reaches, and what its bytes are.
-- In: bytes. Out: the value of an Int, if they are one; whether they are a Float; the class.
use Rattle.std.specs.Prelude.{ℕ, ◌+◌, ◌*◌, ◌-◌, Bool, false, ◌&&◌, ◌||◌, ◌==◌, nat_lt, nat_le, List, [], ◌∷◌, take, drop, slice_index, count_by, Option, Some, None, is_some, codes, if◌then◌else◌}
use Rattle.std.specs.List.{list_any, list_all}
use Rattle.std.specs.Str.{bytes_eq}
use Rattle.snl_lex.specs.declared.alphabet.NumberBase.{NumberBase}
use Rattle.snl_lex.specs.declared.alphabet.NumberBase.TheVariants.{Octal, Decimal, Hexadecimal}
use Rattle.snl_lex.specs.declared.piece.Class.{Class}
use Rattle.snl_lex.specs.declared.piece.Class.TheVariants.{Int, Float, Bad}
use Rattle.snl_lex.specs.Alphabet.{is_digit, is_word_byte, is_plain, is_digit_in}
use Rattle.snl_lex.specs.Runs.{run_of}

unfoldable pub is_sign : ℕ → Bool
is_sign b = b == 43 || b == 45

-- `e` or `E`.
unfoldable pub is_power : ℕ → Bool
is_power b = b == 101 || b == 69

-- The last byte is `e` or `E`, and all before it are digits and dots. (The last byte comes first in
-- the list.)
unfoldable pub awaits_sign : List ℕ → Bool
awaits_sign [] = false
awaits_sign (b ∷ before) = is_power b && list_all is_plain before

-- A number run goes on with letters, digits, `_` and `.`, and with a sign directly after an `e` or
-- `E` that only digits and dots come before.
unfoldable pub number_joins : List ℕ → ℕ → Bool
number_joins before b = is_word_byte b || b == 46 || (is_sign b && awaits_sign before)

-- A byte that a number may have: a letter, `_`, a digit, a dot or a sign.
unfoldable pub is_number_byte : ℕ → Bool
is_number_byte b = is_word_byte b || b == 46 || is_sign b

-- The value of a digit in base 8, 10 or 16.
unfoldable pub digit_value : ℕ → ℕ
digit_value b = if is_digit b then b - 48 else (if nat_le 97 b then b - 87 else b - 55)

abbrev pub radix : NumberBase → ℕ
radix Octal = 8
radix Decimal = 10
radix Hexadecimal = 16

-- What the digits are worth after others that are worth `value`.
abbrev pub value_after : NumberBase → ℕ → List ℕ → ℕ
value_after base value [] = value
value_after base value (d ∷ ds) = value_after base (value * radix base + digit_value d) ds

-- A value, if it is at most 2^64 - 1.
abbrev pub checked_value : ℕ → Option ℕ
checked_value value = if nat_lt value 18446744073709551616 then Some value else None

-- What an Int may end with: nothing, `u`, `l` or `ll`, or a `u` and one of `l` and `ll` in either
-- order. Each may be in either case, but the two letters of `ll` are in the same one.
abbrev pub int_suffixes : List (List ℕ)
int_suffixes =
    [] ∷ codes "u" ∷ codes "U" ∷ codes "l" ∷ codes "L" ∷ codes "ll" ∷ codes "LL"
    ∷ codes "ul" ∷ codes "uL" ∷ codes "Ul" ∷ codes "UL" ∷ codes "lu" ∷ codes "lU" ∷ codes "Lu" ∷ codes "LU"
    ∷ codes "ull" ∷ codes "uLL" ∷ codes "Ull" ∷ codes "ULL" ∷ codes "llu" ∷ codes "llU" ∷ codes "LLu" ∷ codes "LLU" ∷ []

-- These in three parts: nothing, a `u`, or one `l` or two; a `u` and one `l`; a `u` and two.
abbrev pub lone_suffixes : List (List ℕ)
lone_suffixes = [] ∷ codes "u" ∷ codes "U" ∷ codes "l" ∷ codes "L" ∷ codes "ll" ∷ codes "LL" ∷ []

abbrev pub short_suffixes : List (List ℕ)
short_suffixes = codes "ul" ∷ codes "uL" ∷ codes "Ul" ∷ codes "UL" ∷ codes "lu" ∷ codes "lU" ∷ codes "Lu" ∷ codes "LU" ∷ []

abbrev pub long_suffixes : List (List ℕ)
long_suffixes = codes "ull" ∷ codes "uLL" ∷ codes "Ull" ∷ codes "ULL" ∷ codes "llu" ∷ codes "llU" ∷ codes "LLu" ∷ codes "LLU" ∷ []

unfoldable pub is_int_suffix : List ℕ → Bool
is_int_suffix bytes = list_any (bytes_eq bytes) int_suffixes

-- Hexadecimal digits are after `0x` or `0X`; else a first `0` says octal.
unfoldable pub base_of : List ℕ → NumberBase
base_of bytes =
    if slice_index bytes 0 == 48 then (if slice_index bytes 1 == 120 || slice_index bytes 1 == 88 then Hexadecimal else Octal) else Decimal

-- The bytes from the first digit on.
abbrev pub from_digits : NumberBase → List ℕ → List ℕ
from_digits Octal bytes = bytes
from_digits Decimal bytes = bytes
from_digits Hexadecimal bytes = drop 2 bytes

-- The value of digits of the base that one of the suffixes follows: there is a digit, and the value
-- is at most 2^64 - 1.
unfoldable pub value_in : NumberBase → List ℕ → Option ℕ
value_in base bytes =
    let count = run_of (is_digit_in base) bytes in
    if nat_lt 0 count && is_int_suffix (drop count bytes) then checked_value (value_after base 0 (take count bytes)) else None

-- The value of the Int that the bytes are, if they are one.
unfoldable pub int_value_of : List ℕ → Option ℕ
int_value_of bytes = value_in (base_of bytes) (from_digits (base_of bytes) bytes)

-- What a Float may end with: `f`, `F`, `l`, `L` or nothing.
unfoldable pub is_float_suffix : List ℕ → Bool
is_float_suffix bytes = list_any (bytes_eq bytes) ([] ∷ codes "f" ∷ codes "F" ∷ codes "l" ∷ codes "L" ∷ [])

-- How many bytes a sign at the front has: one or none.
abbrev pub sign_length : List ℕ → ℕ
sign_length bytes = if is_sign (slice_index bytes 0) then 1 else 0

-- An optional sign, at least one digit, and what a Float may end with.
unfoldable pub is_exponent : List ℕ → Bool
is_exponent bytes =
    let digits = drop (sign_length bytes) bytes in
    let count = run_of is_digit digits in
    nat_lt 0 count && is_float_suffix (drop count digits)

-- `e` or `E`, and an exponent.
unfoldable pub is_power_part : List ℕ → Bool
is_power_part bytes = is_power (slice_index bytes 0) && is_exponent (drop 1 bytes)

-- How many dots there are.
abbrev pub dots_in : List ℕ → ℕ
dots_in bytes = count_by (λ b. b == 46) bytes

-- Digits with one dot, a digit somewhere, and an optional exponent; or digits and an exponent.
unfoldable pub is_float : List ℕ → Bool
is_float bytes =
    let count = run_of is_plain bytes in
    let dots = dots_in (take count bytes) in
    let after = drop count bytes in
    nat_lt dots count && ((dots == 1 && is_float_suffix after) || (nat_le dots 1 && is_power_part after))

-- The class that the bytes of a number run tell.
unfoldable pub number_class : List ℕ → Class
number_class bytes = if is_some (int_value_of bytes) then Int else (if is_float bytes then Float else Bad)
