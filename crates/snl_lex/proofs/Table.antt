-- The table of starts, held against the definitions at each of the 256 bytes by computing.
use Rattle.std.proofs.Common.{◌≡◌, ◌==◌, ℕ, ◌<◌, Bool, true, false, cond, get_or, sym, ap, ◌∙◌, refl, eqb-true}
use Rattle.std.proofs.lemmas.Bool.{agree_below_at}
use Rattle.snl_lex.specs.declared.alphabet.Start.{Start}
use Rattle.snl_lex.specs.declared.alphabet.Start.TheVariants.{Blank, Letter, Digit, Dot, Hash, Slash, Percent, Quote, Apostrophe, Sign, Stray}
use Rattle.snl_lex.specs.declared.alphabet.TheConstants.{STARTS}
use Rattle.snl_lex.specs.Alphabet.{is_white, is_letter, is_digit, is_word_byte, is_punctuator, is_stray, start_of}

-- Starts as numbers, and back.
abbrev number_of : Start → ℕ
number_of Blank = 0
number_of Letter = 1
number_of Digit = 2
number_of Dot = 3
number_of Hash = 4
number_of Slash = 5
number_of Percent = 6
number_of Quote = 7
number_of Apostrophe = 8
number_of Sign = 9
number_of Stray = 10

abbrev start_from : ℕ → Start
start_from n =
    cond (n == 0) Blank
    (cond (n == 1) Letter
    (cond (n == 2) Digit
    (cond (n == 3) Dot (cond (n == 4) Hash (cond (n == 5) Slash (cond (n == 6) Percent (cond (n == 7) Quote (cond (n == 8) Apostrophe (cond (n == 9) Sign Stray)))))))))

back : (s : Start) → start_from (number_of s) ≡ s
back Blank = refl
back Letter = refl
back Digit = refl
back Dot = refl
back Hash = refl
back Slash = refl
back Percent = refl
back Quote = refl
back Apostrophe = refl
back Sign = refl
back Stray = refl

same_start : (s t : Start) → number_of s ≡ number_of t → s ≡ t
same_start s t e = sym (back s) ∙ (ap start_from e ∙ back t)

pub table_right : (b : ℕ) → b < 256 → get_or STARTS b Blank ≡ start_of b
unfolding start_of is_white is_letter is_digit is_punctuator
table_right b lt =
    same_start (get_or STARTS b Blank) (start_of b)
    (eqb-true (number_of (get_or STARTS b Blank)) (number_of (start_of b))
    (agree_below_at (λ k. number_of (get_or STARTS k Blank) == number_of (start_of k)) (λ k. true) 256 b refl lt))

-- Which starts make up a set of bytes.
abbrev pub is_blank_start : Start → Bool
is_blank_start Blank = true
is_blank_start _ = false

abbrev pub is_word_start : Start → Bool
is_word_start Letter = true
is_word_start Digit = true
is_word_start _ = false

abbrev pub is_stray_start : Start → Bool
is_stray_start Stray = true
is_stray_start _ = false

pub blank_table : (b : ℕ) → b < 256 → is_blank_start (start_of b) ≡ is_white b
unfolding start_of is_white is_letter is_digit is_punctuator
blank_table b lt = agree_below_at (λ k. is_blank_start (start_of k)) is_white 256 b refl lt

pub word_table : (b : ℕ) → b < 256 → is_word_start (start_of b) ≡ is_word_byte b
unfolding start_of is_white is_letter is_digit is_punctuator is_word_byte
word_table b lt = agree_below_at (λ k. is_word_start (start_of k)) is_word_byte 256 b refl lt

pub stray_table : (b : ℕ) → b < 256 → is_stray_start (start_of b) ≡ is_stray b
unfolding start_of is_white is_letter is_digit is_punctuator is_stray
stray_table b lt = agree_below_at (λ k. is_stray_start (start_of k)) is_stray 256 b refl lt

pub not_blank : (s : Start) → (s ≡ Blank → ⊥) → false ≡ is_blank_start s
not_blank Blank h0 = absurd (h0 refl)
not_blank Letter h0 = refl
not_blank Digit h0 = refl
not_blank Dot h0 = refl
not_blank Hash h0 = refl
not_blank Slash h0 = refl
not_blank Percent h0 = refl
not_blank Quote h0 = refl
not_blank Apostrophe h0 = refl
not_blank Sign h0 = refl
not_blank Stray h0 = refl

pub not_word : (s : Start) → (s ≡ Letter → ⊥) → (s ≡ Digit → ⊥) → false ≡ is_word_start s
not_word Blank h0 h1 = refl
not_word Letter h0 h1 = absurd (h0 refl)
not_word Digit h0 h1 = absurd (h1 refl)
not_word Dot h0 h1 = refl
not_word Hash h0 h1 = refl
not_word Slash h0 h1 = refl
not_word Percent h0 h1 = refl
not_word Quote h0 h1 = refl
not_word Apostrophe h0 h1 = refl
not_word Sign h0 h1 = refl
not_word Stray h0 h1 = refl

pub not_stray : (s : Start) → (s ≡ Stray → ⊥) → false ≡ is_stray_start s
not_stray Blank h0 = refl
not_stray Letter h0 = refl
not_stray Digit h0 = refl
not_stray Dot h0 = refl
not_stray Hash h0 = refl
not_stray Slash h0 = refl
not_stray Percent h0 = refl
not_stray Quote h0 = refl
not_stray Apostrophe h0 = refl
not_stray Sign h0 = refl
not_stray Stray h0 = absurd (h0 refl)
