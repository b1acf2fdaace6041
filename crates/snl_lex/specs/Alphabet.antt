-- What single bytes are, and what a piece begins with.
-- In: a byte, or the bytes of a punctuator. Out: tests, and what the first byte says of a piece.
use Rattle.std.specs.Prelude.{ℕ, Bool, not, ◌&&◌, ◌||◌, ◌==◌, nat_le, List, [], ◌∷◌, if◌then◌else◌}
use Rattle.snl_lex.specs.declared.alphabet.NumberBase.{NumberBase}
use Rattle.snl_lex.specs.declared.alphabet.NumberBase.TheVariants.{Octal, Decimal, Hexadecimal}
use Rattle.snl_lex.specs.declared.alphabet.Set.{Set}
use Rattle.snl_lex.specs.declared.alphabet.Set.TheVariants.{Blanks, NameBytes, LineBytes, Strays, Gaps, Plains, Digits}
use Rattle.snl_lex.specs.declared.alphabet.Start.{Start}
use Rattle.snl_lex.specs.declared.alphabet.Start.TheVariants.{Blank, Letter, Digit, Dot, Hash, Slash, Percent, Quote, Apostrophe, Sign, Stray}
use Rattle.snl_lex.specs.Kinds.{has, punctuators}

-- Space, tab, LF, VT, FF and CR.
unfoldable pub is_white : ℕ → Bool
is_white b = b == 32 || (nat_le 9 b && nat_le b 13)

-- Space and tab.
unfoldable pub is_gap : ℕ → Bool
is_gap b = b == 32 || b == 9

unfoldable pub is_digit : ℕ → Bool
is_digit b = nat_le 48 b && nat_le b 57

-- An ASCII letter or `_`: a name begins with it.
unfoldable pub is_letter : ℕ → Bool
is_letter b = (nat_le 97 b && nat_le b 122) || (nat_le 65 b && nat_le b 90) || b == 95

-- A letter, `_` or a digit: a name goes on with it.
unfoldable pub is_word_byte : ℕ → Bool
is_word_byte b = is_letter b || is_digit b

unfoldable pub is_octal_digit : ℕ → Bool
is_octal_digit b = nat_le 48 b && nat_le b 55

unfoldable pub is_hexadecimal_digit : ℕ → Bool
is_hexadecimal_digit b = is_digit b || (nat_le 97 b && nat_le b 102) || (nat_le 65 b && nat_le b 70)

-- Any byte but LF.
unfoldable pub is_in_line : ℕ → Bool
is_in_line b = not (b == 10)

-- The bytes spell one of the punctuators of the table.
unfoldable pub is_punctuator : List ℕ → Bool
is_punctuator bytes = has punctuators bytes

-- A byte that begins no class: neither white, nor a letter, a digit, a quote, `#` or a punctuator.
unfoldable pub is_stray : ℕ → Bool
is_stray b = not (is_white b || is_letter b || is_digit b || b == 34 || b == 39 || b == 35 || is_punctuator (b ∷ []))

-- What the first byte says of a piece.
unfoldable pub start_of : ℕ → Start
start_of b =
    if is_white b then Blank
    else if is_letter b then Letter
    else if is_digit b then Digit
    else if b == 46 then Dot
    else if b == 35 then Hash
    else if b == 47 then Slash
    else if b == 37 then Percent
    else if b == 34 then Quote
    else if b == 39 then Apostrophe
    else if is_punctuator (b ∷ []) then Sign
    else Stray

-- A digit or a dot.
unfoldable pub is_plain : ℕ → Bool
is_plain b = is_digit b || b == 46

-- A digit of the base.
abbrev pub is_digit_in : NumberBase → ℕ → Bool
is_digit_in Octal b = is_octal_digit b
is_digit_in Decimal b = is_digit b
is_digit_in Hexadecimal b = is_hexadecimal_digit b

-- A byte is in the set.
abbrev pub is_in : Set → ℕ → Bool
is_in Blanks b = is_white b
is_in NameBytes b = is_word_byte b
is_in LineBytes b = is_in_line b
is_in Strays b = is_stray b
is_in Gaps b = is_gap b
is_in Plains b = is_plain b
is_in (Digits base) b = is_digit_in base b
