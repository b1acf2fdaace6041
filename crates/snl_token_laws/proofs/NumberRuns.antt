-- Where the run of a number ends, of which the digits are known.
use Rattle.std.proofs.Common.{◌≡◌, ◌==◌, ℕ, suc, ◌+◌, ◌<◌, Bool, true, false, not, ◌&&◌, ◌||◌, cond, List, [], ◌∷◌, ◌++◌, length, take, Some, refl, ap, ◌∙◌, arith}
use Rattle.std.specs.Prelude.{decimal}
use Rattle.std.specs.Fmt.{digits}
use Rattle.std.specs.List.{list_all}
use Rattle.std.proofs.lemmas.Bool.{and_from, and_left, and_parts, and_right, not-true, not_from_false, or_left, or_right}
use Rattle.std.proofs.lemmas.Bool.Decides.{nat_tests}
use Rattle.std.proofs.lemmas.Fmt.{digits_is_IsNumeral}
use Rattle.std.proofs.Math.Seq.{take-append_seam}
use Rattle.snl_lex.specs.declared.alphabet.Start.{Start}
use Rattle.snl_lex.specs.declared.piece.Class.{Class}
use Rattle.snl_lex.specs.declared.piece.Class.TheVariants.{Int}
use Rattle.snl_lex.specs.Alphabet.{is_digit, is_hexadecimal_digit, is_letter, is_plain, is_word_byte}
use Rattle.snl_lex.specs.Numbers.{awaits_sign, int_value_of, is_power, is_sign, number_class, number_joins}
use Rattle.snl_lex.specs.Pieces.{first_piece, piece_by}
use Rattle.snl_lex.specs.Runs.{run_by}
use Rattle.snl_token_laws.specs.Written.{goes_on_digits, hexadecimal, octal}
use Rattle.snl_token_laws.proofs.Limits.{int_class}
use Rattle.snl_token_laws.proofs.Values.{all_digits, decimal_digit_is, decimal_value, hexadecimal_digit_is, hexadecimal_value, octal_value}
use Rattle.snl_lex.specs.PieceLaws.{digit_start}
use Rattle.std.proofs.Math.Numerals.{one-add}

-- ---- the run of a number

stops_at : (word dot sign awaits : Bool) → (word || dot) ≡ false → awaits ≡ false → (word || dot || (sign && awaits)) ≡ false
stops_at false false true false h k = refl
stops_at false false false false h k = refl
stops_at false false true true h k = cc
stops_at false false false true h k = cc
stops_at false true sign awaits h k = cc
stops_at true dot sign awaits h k = cc

pub stops : (before rest : List ℕ) → awaits_sign before ≡ false → goes_on_digits rest ≡ false → run_by number_joins before rest ≡ 0
unfolding number_joins
stops before [] h k = refl
stops before (b ∷ bs) h k = ap (λ (c : Bool). cond c (suc (run_by number_joins (b ∷ before) bs)) 0) (stops_at (is_word_byte b) (b == 46) (is_sign b) (awaits_sign before) k h)

pub joins : (before : List ℕ) (b : ℕ) → (is_word_byte b || b == 46) ≡ true → number_joins before b ≡ true
unfolding number_joins
joins before b h = or_left (is_word_byte b || b == 46) (is_sign b && awaits_sign before) h

-- Bytes that pass a test go on a number, where none of them leaves a sign to come: `keeps` holds of
-- what is before each.
pub record IsQuiet (passes : ℕ → Bool) (keeps : List ℕ → Bool) : Type 0 where
  pub word : (b : ℕ) → passes b ≡ true → (is_word_byte b || b == 46) ≡ true
  pub kept : (before : List ℕ) (b : ℕ) → keeps before ≡ true → passes b ≡ true → keeps (b ∷ before) ≡ true
  pub quiet : (before : List ℕ) → keeps before ≡ true → awaits_sign before ≡ false

pub run_on : (passes : ℕ → Bool) (keeps : List ℕ → Bool) → IsQuiet passes keeps → (before ds rest : List ℕ) → keeps before ≡ true → list_all passes ds ≡ true → goes_on_digits rest ≡ false
    → run_by number_joins before (ds ++ rest) ≡ length ds
run_on passes keeps is before [] rest k all end = stops before rest (is.quiet before k) end
run_on passes keeps is before (d ∷ ds) rest k all end =
    let parts = and_parts (passes d) (list_all passes ds) all in
    let again = run_on passes keeps is (d ∷ before) ds rest (is.kept before d k parts.0) parts.1 end in
    ap (λ (c : Bool). cond c (suc (run_by number_joins (d ∷ before) (ds ++ rest))) 0) (joins before d (is.word d parts.0)) ∙ ap suc again

-- After a digit no sign comes.
abbrev pub after_digit : List ℕ → Bool
after_digit before = not (awaits_sign before)

pub digit_is_word : (b : ℕ) → is_digit b ≡ true → is_word_byte b ≡ true
unfolding is_word_byte
digit_is_word b h = or_right (is_letter b) (is_digit b) h

pub digit_is_no_power : (b : ℕ) → is_digit b ≡ true → is_power b ≡ false
unfolding is_digit is_power
digit_is_no_power b h = grind (arith, nat_tests)

pub digit_awaits_none : (before : List ℕ) (b : ℕ) → is_digit b ≡ true → awaits_sign (b ∷ before) ≡ false
unfolding awaits_sign
digit_awaits_none before b h = and_left (is_power b) (list_all is_plain before) (digit_is_no_power b h)

digits_quiet : IsQuiet is_digit after_digit
digits_quiet = record {
  word = λ b h. or_left (is_word_byte b) (b == 46) (digit_is_word b h);
  kept = λ before b k h. not_from_false (awaits_sign (b ∷ before)) (digit_awaits_none before b h);
  quiet = λ before k. not-true (awaits_sign before) k;
}

-- Nor where a byte before is neither a digit nor a dot.
abbrev pub after_letter : List ℕ → Bool
after_letter before = not (awaits_sign before) && not (list_all is_plain before)

pub hexadecimal_is_word : (b : ℕ) → is_hexadecimal_digit b ≡ true → is_word_byte b ≡ true
unfolding is_hexadecimal_digit is_word_byte is_letter is_digit
hexadecimal_is_word b h = grind (arith, nat_tests)

pub letter_kept : (before : List ℕ) (b : ℕ) → after_letter before ≡ true → after_letter (b ∷ before) ≡ true
unfolding awaits_sign
letter_kept before b h =
    let mixed : list_all is_plain before ≡ false = not-true (list_all is_plain before) (and_parts (not (awaits_sign before)) (not (list_all is_plain before)) h).1 in
    and_from (not (awaits_sign (b ∷ before))) (not (list_all is_plain (b ∷ before)))
    (not_from_false (awaits_sign (b ∷ before)) (and_right (is_power b) (list_all is_plain before) mixed))
    (not_from_false (list_all is_plain (b ∷ before)) (and_right (is_plain b) (list_all is_plain before) mixed))

letters_quiet : IsQuiet is_hexadecimal_digit after_letter
letters_quiet = record {
  word = λ b h. or_left (is_word_byte b) (b == 46) (hexadecimal_is_word b h);
  kept = λ before b k h. letter_kept before b k;
  quiet = λ before k. not-true (awaits_sign before) (and_parts (not (awaits_sign before)) (not (list_all is_plain before)) k).0;
}

-- ---- the piece

-- A number that begins with a digit, of which the run and the value are known.
number_first : (c : ℕ) (cs rest : List ℕ) (v : ℕ) → is_digit c ≡ true → run_by number_joins (c ∷ []) (cs ++ rest) ≡ length cs → int_value_of (c ∷ cs) ≡ Some v
    → first_piece ((c ∷ cs) ++ rest) ≡ (Int, length (c ∷ cs))
unfolding first_piece
number_first c cs rest v d run value =
    let u : List ℕ = c ∷ cs ++ rest in
    let count : 1 + run_by number_joins (c ∷ []) (cs ++ rest) ≡ length (c ∷ cs) = ap (λ (n : ℕ). 1 + n) run ∙ one-add (length cs) in
    let bytes : take (length (c ∷ cs)) u ≡ c ∷ cs = take-append_seam (c ∷ cs) rest in
    ap (λ (s : Start). piece_by s u) (digit_start c d)
    ∙ ap (λ (n : ℕ). (number_class (take n u), n)) count
    ∙ ap (λ (k : Class). (k, length (c ∷ cs))) (ap number_class bytes ∙ int_class (c ∷ cs) v value)

digits_first : (ds rest : List ℕ) (v : ℕ) → 0 < length ds → list_all is_digit ds ≡ true → int_value_of ds ≡ Some v → goes_on_digits rest ≡ false → first_piece (ds ++ rest) ≡ (Int, length ds)
digits_first [] rest v some all value end = absurd (omega arith)
digits_first (c ∷ cs) rest v some all value end =
    let parts = and_parts (is_digit c) (list_all is_digit cs) all in
    let quiet = not_from_false (awaits_sign (c ∷ [])) (digit_awaits_none [] c parts.0) in
    number_first c cs rest v parts.0 (run_on is_digit after_digit digits_quiet (c ∷ []) cs rest quiet parts.1 end) value

pub decimal_piece : (v : ℕ) (rest : List ℕ) → v < 18446744073709551616 → goes_on_digits rest ≡ false → first_piece (decimal v ++ rest) ≡ (Int, length (decimal v))
decimal_piece v rest h end =
    let is = digits_is_IsNumeral 10 false (omega arith) (omega arith) v (omega arith) in
    digits_first (decimal v) rest v is.0.0 (all_digits is_digit 10 (decimal v) decimal_digit_is is.0.1) (decimal_value v h) end

zero_digit : is_digit 48 ≡ true
unfolding is_digit
zero_digit = refl

pub octal_piece : (v : ℕ) (rest : List ℕ) → v < 18446744073709551616 → goes_on_digits rest ≡ false → first_piece (octal v ++ rest) ≡ (Int, length (octal v))
octal_piece v rest h end =
    let ds : List ℕ = digits 8 false v in
    let is = digits_is_IsNumeral 8 false (omega arith) (omega arith) v (omega arith) in
    let all : list_all is_digit ds ≡ true = all_digits is_digit 8 ds (λ c low. decimal_digit_is c (omega arith)) is.0.1 in
    digits_first (48 ∷ ds) rest v (omega arith) (and_from (is_digit 48) (list_all is_digit ds) zero_digit all) (octal_value v h) end

hexadecimal_run : (x : ℕ) (ds rest : List ℕ) → is_word_byte x ≡ true → after_letter (x ∷ 48 ∷ []) ≡ true → list_all is_hexadecimal_digit ds ≡ true → goes_on_digits rest ≡ false
    → run_by number_joins (48 ∷ []) (x ∷ ds ++ rest) ≡ suc (length ds)
hexadecimal_run x ds rest word quiet all end =
    ap (λ (c : Bool). cond c (suc (run_by number_joins (x ∷ 48 ∷ []) (ds ++ rest))) 0) (joins (48 ∷ []) x (or_left (is_word_byte x) (x == 46) word))
    ∙ ap suc (run_on is_hexadecimal_digit after_letter letters_quiet (x ∷ 48 ∷ []) ds rest quiet all end)

pub small_x : (is_word_byte 120 ≡ true) × (after_letter (120 ∷ 48 ∷ []) ≡ true)
unfolding is_word_byte is_letter is_digit awaits_sign is_power is_plain
small_x = (refl, refl)

pub capital_x : (is_word_byte 88 ≡ true) × (after_letter (88 ∷ 48 ∷ []) ≡ true)
unfolding is_word_byte is_letter is_digit awaits_sign is_power is_plain
capital_x = (refl, refl)

pub hexadecimal_piece : (x capital : Bool) (v : ℕ) (rest : List ℕ) → v < 18446744073709551616 → goes_on_digits rest ≡ false
    → first_piece (hexadecimal x capital v ++ rest) ≡ (Int, length (hexadecimal x capital v))
hexadecimal_piece true capital v rest h end =
    let ds : List ℕ = digits 16 capital v in
    let is = digits_is_IsNumeral 16 capital (omega arith) (omega arith) v (omega arith) in
    let all : list_all is_hexadecimal_digit ds ≡ true = all_digits is_hexadecimal_digit 16 ds hexadecimal_digit_is is.0.1 in
    number_first 48 (88 ∷ ds) rest v zero_digit (hexadecimal_run 88 ds rest capital_x.0 capital_x.1 all end) (hexadecimal_value true capital v h)
hexadecimal_piece false capital v rest h end =
    let ds : List ℕ = digits 16 capital v in
    let is = digits_is_IsNumeral 16 capital (omega arith) (omega arith) v (omega arith) in
    let all : list_all is_hexadecimal_digit ds ≡ true = all_digits is_hexadecimal_digit 16 ds hexadecimal_digit_is is.0.1 in
    number_first 48 (120 ∷ ds) rest v zero_digit (hexadecimal_run 120 ds rest small_x.0 small_x.1 all end) (hexadecimal_value false capital v h)
