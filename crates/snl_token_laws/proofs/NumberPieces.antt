-- A number that is written in one of its forms is one piece of its class.
use Rattle.std.proofs.Common.{◌≡◌, ◌==◌, ◌⊎◌, inl, inr, ℕ, suc, ◌+◌, ◌<◌, Bool, true, false, not, ◌&&◌, ◌||◌, cond, List, [], ◌∷◌, ◌++◌, length, take, refl, sym, ap, ◌∙◌, subst, arith, append_assoc, length-append}
use Rattle.std.specs.Prelude.{slice_index}
use Rattle.std.specs.List.{list_all}
use Rattle.std.specs.Str.Parse.{AllDigits, IsNumeral}
use Rattle.std.proofs.Math.Numerals.{one-add}
use Rattle.std.proofs.Math.Seq.{take-append_seam}
use Rattle.std.proofs.lemmas.Bool.{and_from, and_left, and_parts, and_right, not-true, not_from_false, or_left, or_right}
use Rattle.std.proofs.lemmas.Bool.Decides.{nat_tests}
use Rattle.std.proofs.lemmas.List.Folds.{list_all-append}
use Rattle.snl_lex.specs.declared.alphabet.Start.{Start}
use Rattle.snl_lex.specs.declared.alphabet.Start.TheVariants.{Dot}
use Rattle.snl_lex.specs.declared.piece.Class.{Class}
use Rattle.snl_lex.specs.declared.piece.Class.TheVariants.{Int, Float}
use Rattle.snl_lex.specs.Alphabet.{is_digit, is_hexadecimal_digit, is_letter, is_plain, is_white, is_word_byte, start_of}
use Rattle.snl_lex.specs.Numbers.{awaits_sign, is_power, is_sign, number_class, number_joins}
use Rattle.snl_lex.specs.PieceLaws.{digit_start}
use Rattle.snl_lex.specs.Pieces.{first_piece, number_piece, piece_by, punctuator_piece}
use Rattle.snl_lex.specs.Runs.{run_by}
use Rattle.snl_token_laws.specs.Numbers.{BeginsNumber, EndsInteger, IsExponent, IsFloating, IsInteger, IsOneOf, float_marks}
use Rattle.snl_token_laws.specs.Numbers.IsExponent.{exponent}
use Rattle.snl_token_laws.specs.Numbers.IsFloating.{with_dot, without_dot}
use Rattle.snl_token_laws.specs.Numbers.IsInteger.{decimal, hexadecimal, octal}
use Rattle.snl_token_laws.specs.Written.{goes_on_digits}
use Rattle.snl_token_laws.proofs.FloatForms.{all_decimal, all_plain, digit_is_plain, signs}
use Rattle.snl_token_laws.proofs.NumberForms.{decimal_calm, ends_calm, float_class, integer_class, is_calm, octal_digits, zero_is}
use Rattle.snl_token_laws.proofs.NumberRuns.{IsQuiet, after_digit, after_letter, capital_x, digit_awaits_none, digit_is_word, hexadecimal_is_word, joins, letter_kept, run_on, small_x}
use Rattle.snl_token_laws.proofs.Spelled.{each_one}
use Rattle.snl_token_laws.proofs.Values.{all_digits, decimal_digit_is, hexadecimal_digit_is}

-- ---- the first piece of a text that a number begins

dot_start : start_of 46 ≡ Dot
unfolding start_of is_white is_letter is_digit
dot_start = refl

dot_number : (u : List ℕ) (b : Bool) → b ≡ true → cond b (number_piece u) (punctuator_piece u) ≡ number_piece u
dot_number u b h = ap (λ (c : Bool). cond c (number_piece u) (punctuator_piece u)) h

pub number_begins : (u : List ℕ) → BeginsNumber u → first_piece u ≡ number_piece u
unfolding first_piece
number_begins u h =
    elim h [
      | inl d ↦ ap (λ (s : Start). piece_by s u) (digit_start (slice_index u 0) d)
      | inr dot ↦ ap (λ (b : ℕ). piece_by (start_of b) u) dot.0 ∙ (ap (λ (s : Start). piece_by s u) dot_start ∙ dot_number u (is_digit (slice_index u 1)) dot.1)
    ]

front_piece : (c : ℕ) (cs rest : List ℕ) → BeginsNumber (c ∷ cs ++ rest) → run_by number_joins (c ∷ []) (cs ++ rest) ≡ length cs → first_piece ((c ∷ cs) ++ rest) ≡ (number_class (c ∷ cs), length (c ∷ cs))
front_piece c cs rest begins run =
    let u : List ℕ = c ∷ cs ++ rest in
    let count : 1 + run_by number_joins (c ∷ []) (cs ++ rest) ≡ length (c ∷ cs) = ap (λ (n : ℕ). 1 + n) run ∙ one-add (length cs) in
    let bytes : take (length (c ∷ cs)) u ≡ c ∷ cs = take-append_seam (c ∷ cs) rest in
    number_begins u begins ∙ ap (λ (n : ℕ). (number_class (take n u), n)) count ∙ ap (λ (l : List ℕ). (number_class l, length (c ∷ cs))) bytes

-- ---- runs

abbrev is_joined : ℕ → Bool
is_joined b = is_word_byte b || b == 46

joined_quiet : IsQuiet is_joined after_letter
joined_quiet = record {
  word = λ b h. h;
  kept = λ before b k h. letter_kept before b k;
  quiet = λ before k. not-true (awaits_sign before) (and_parts (not (awaits_sign before)) (not (list_all is_plain before)) k).0;
}

abbrev is_smooth : ℕ → Bool
is_smooth b = is_joined b && not (is_power b)

smooth_awaits : (before : List ℕ) (b : ℕ) → is_power b ≡ false → after_digit (b ∷ before) ≡ true
unfolding awaits_sign
smooth_awaits before b h = not_from_false (is_power b && list_all is_plain before) (and_left (is_power b) (list_all is_plain before) h)

smooth_quiet : IsQuiet is_smooth after_digit
smooth_quiet = record {
  word = λ b h. (and_parts (is_joined b) (not (is_power b)) h).0;
  kept = λ before b k h. smooth_awaits before b (not-true (is_power b) (and_parts (is_joined b) (not (is_power b)) h).1);
  quiet = λ before k. not-true (awaits_sign before) k;
}

all_from : (p q : ℕ → Bool) → ((b : ℕ) → p b ≡ true → q b ≡ true) → (xs : List ℕ) → list_all p xs ≡ true → list_all q xs ≡ true
all_from p q each [] h = refl
all_from p q each (x ∷ xs) h =
    let parts = and_parts (p x) (list_all p xs) h in
    and_from (q x) (list_all q xs) (each x parts.0) (all_from p q each xs parts.1)

all_both : (p : ℕ → Bool) (xs ys : List ℕ) → list_all p xs ≡ true → list_all p ys ≡ true → list_all p (xs ++ ys) ≡ true
all_both p xs ys h k = list_all-append p xs ys ∙ and_from (list_all p xs) (list_all p ys) h k

calm_smooth : (b : ℕ) → is_calm b ≡ true → is_smooth b ≡ true
calm_smooth b h =
    let parts = and_parts (is_word_byte b) (not (is_power b)) h in
    and_from (is_joined b) (not (is_power b)) (or_left (is_word_byte b) (b == 46) parts.0) parts.1

calm_joined : (b : ℕ) → is_calm b ≡ true → is_joined b ≡ true
calm_joined b h = or_left (is_word_byte b) (b == 46) (and_parts (is_word_byte b) (not (is_power b)) h).0

-- ---- integers

calm_read : (bytes rest : List ℕ) → 0 < length bytes → is_digit (slice_index bytes 0) ≡ true → list_all is_calm bytes ≡ true → goes_on_digits rest ≡ false → first_piece (bytes ++ rest) ≡ (number_class bytes, length bytes)
calm_read [] rest some first all end = absurd (omega arith)
calm_read (c ∷ cs) rest some first all end =
    let parts = and_parts (is_calm c) (list_all is_calm cs) all in
    let quiet : after_digit (c ∷ []) ≡ true = not_from_false (awaits_sign (c ∷ [])) (digit_awaits_none [] c first) in
    front_piece c cs rest (inl first) (run_on is_smooth after_digit smooth_quiet (c ∷ []) cs rest quiet (all_from is_calm is_smooth calm_smooth cs parts.1) end)

hexadecimal_read : (x : ℕ) (ds suffix rest : List ℕ) → is_word_byte x ≡ true → after_letter (x ∷ 48 ∷ []) ≡ true → AllDigits 16 ds → EndsInteger suffix → goes_on_digits rest ≡ false
    → first_piece ((48 ∷ x ∷ ds ++ suffix) ++ rest) ≡ (number_class (48 ∷ x ∷ ds ++ suffix), length (48 ∷ x ∷ ds ++ suffix))
hexadecimal_read x ds suffix rest word quiet all ends end =
    let u : List ℕ = ds ++ suffix in
    let digits : list_all is_joined ds ≡ true =
    all_from is_hexadecimal_digit is_joined (λ b h. or_left (is_word_byte b) (b == 46) (hexadecimal_is_word b h)) ds (all_digits is_hexadecimal_digit 16 ds hexadecimal_digit_is all) in
    let joined : list_all is_joined u ≡ true = all_both is_joined ds suffix digits (all_from is_calm is_joined calm_joined suffix (ends_calm suffix ends)) in
    let run : run_by number_joins (48 ∷ []) (x ∷ u ++ rest) ≡ length (x ∷ u) =
    ap (λ (b : Bool). cond b (suc (run_by number_joins (x ∷ 48 ∷ []) (u ++ rest))) 0) (joins (48 ∷ []) x (or_left (is_word_byte x) (x == 46) word))
    ∙ ap suc (run_on is_joined after_letter joined_quiet (x ∷ 48 ∷ []) u rest quiet joined end) in
    front_piece 48 (x ∷ u) rest (inl zero_is) run

decimal_read : (ds suffix rest : List ℕ) → IsNumeral 10 ds → EndsInteger suffix → goes_on_digits rest ≡ false → first_piece ((ds ++ suffix) ++ rest) ≡ (number_class (ds ++ suffix), length (ds ++ suffix))
decimal_read [] suffix rest is ends end = absurd (omega (arith, is.0))
decimal_read (c ∷ cs) suffix rest is ends end = calm_read (c ∷ cs ++ suffix) rest (omega arith) (decimal_digit_is c is.1.0) (decimal_calm (c ∷ cs) suffix (all_decimal (c ∷ cs) is.1) ends) end

run_read : (bytes rest : List ℕ) (v : ℕ) → IsInteger v bytes → goes_on_digits rest ≡ false → first_piece (bytes ++ rest) ≡ (number_class bytes, length bytes)
run_read bytes rest v (decimal ds suffix is other small ends) end = decimal_read ds suffix rest is ends end
run_read bytes rest v (octal ds suffix all small ends) end =
    let digits : list_all is_digit (48 ∷ ds) ≡ true = and_from (is_digit 48) (list_all is_digit ds) zero_is (octal_digits ds all) in
    calm_read (48 ∷ ds ++ suffix) rest (omega arith) zero_is (decimal_calm (48 ∷ ds) suffix digits ends) end
run_read bytes rest v (hexadecimal x ds suffix mark is small ends) end =
    let G : List ℕ → Type 0 = λ (l : List ℕ). first_piece ((l ++ (ds ++ suffix)) ++ rest) ≡ (number_class (l ++ (ds ++ suffix)), length (l ++ (ds ++ suffix))) in
    elim mark [
      | inl e ↦ subst G (sym e) (hexadecimal_read 120 ds suffix rest small_x.0 small_x.1 is.1 ends end)
      | inr f ↦ elim f [
        | inl e ↦ subst G (sym e) (hexadecimal_read 88 ds suffix rest capital_x.0 capital_x.1 is.1 ends end)
        | inr none ↦ elim none [ ]
      ]
    ]

pub integer_read : (bytes rest : List ℕ) (v : ℕ) → IsInteger v bytes → goes_on_digits rest ≡ false → first_piece (bytes ++ rest) ≡ (Int, length bytes)
integer_read bytes rest v is end = run_read bytes rest v is end ∙ ap (λ (k : Class). (k, length bytes)) (integer_class bytes v is)

-- ---- floating numbers

plain_word : (letter digit dot : Bool) → (digit || dot) ≡ true → ((letter || digit) || dot) ≡ true
plain_word true digit dot h = refl
plain_word false digit dot h = h

plain_joined : (b : ℕ) → is_plain b ≡ true → is_joined b ≡ true
unfolding is_plain is_word_byte
plain_joined b h = plain_word (is_letter b) (is_digit b) (b == 46) h

plain_no_power : (b : ℕ) → is_plain b ≡ true → is_power b ≡ false
unfolding is_plain is_digit is_power
plain_no_power b h = grind (arith, nat_tests)

plain_awaits : (before : List ℕ) → list_all is_plain before ≡ true → after_digit before ≡ true
unfolding awaits_sign
plain_awaits [] h = refl
plain_awaits (b ∷ before) h = smooth_awaits before b (plain_no_power b (and_parts (is_plain b) (list_all is_plain before) h).0)

-- What comes after digits and dots, whatever these are.
abbrev RunsAfter : List ℕ → List ℕ → Type 0
RunsAfter zs rest = (before : List ℕ) → list_all is_plain before ≡ true → run_by number_joins before (zs ++ rest) ≡ length zs

run_plain : (before xs zs rest : List ℕ) → list_all is_plain before ≡ true → list_all is_plain xs ≡ true → RunsAfter zs rest → run_by number_joins before ((xs ++ zs) ++ rest) ≡ length (xs ++ zs)
run_plain before [] zs rest hb hx after = after before hb
run_plain before (x ∷ xs) zs rest hb hx after =
    let parts = and_parts (is_plain x) (list_all is_plain xs) hx in
    ap (λ (b : Bool). cond b (suc (run_by number_joins (x ∷ before) ((xs ++ zs) ++ rest))) 0) (joins before x (plain_joined x parts.0))
    ∙ ap suc (run_plain (x ∷ before) xs zs rest (and_from (is_plain x) (list_all is_plain before) parts.0 hb) parts.1 after)

plain_read : (xs zs rest : List ℕ) → 0 < length xs → list_all is_plain xs ≡ true → BeginsNumber ((xs ++ zs) ++ rest) → RunsAfter zs rest → first_piece ((xs ++ zs) ++ rest) ≡ (number_class (xs ++ zs), length (xs ++ zs))
plain_read [] zs rest some all begins after = absurd (omega arith)
plain_read (c ∷ cs) zs rest some all begins after =
    let parts = and_parts (is_plain c) (list_all is_plain cs) all in
    front_piece c (cs ++ zs) rest begins (run_plain (c ∷ []) cs zs rest (and_from (is_plain c) true parts.0 refl) parts.1 after)

mark_smooth : (suffix : List ℕ) → IsOneOf suffix float_marks → list_all is_smooth suffix ≡ true
unfolding is_word_byte is_letter is_digit is_power
mark_smooth suffix h = each_one (list_all is_smooth) suffix float_marks refl h

mark_runs : (suffix rest : List ℕ) → IsOneOf suffix float_marks → goes_on_digits rest ≡ false → RunsAfter suffix rest
mark_runs suffix rest mark end = λ before h. run_on is_smooth after_digit smooth_quiet before suffix rest (plain_awaits before h) (mark_smooth suffix mark) end

-- After an `e` that digits and dots come before.
power_awaits : (before : List ℕ) (e : ℕ) → is_power e ≡ true → list_all is_plain before ≡ true → awaits_sign (e ∷ before) ≡ true
unfolding awaits_sign
power_awaits before e h k = and_from (is_power e) (list_all is_plain before) h k

after_power : (before : List ℕ) (e b : ℕ) → is_plain e ≡ false → is_power b ≡ false → after_letter (b ∷ e ∷ before) ≡ true
after_power before e b other calm =
    and_from (after_digit (b ∷ e ∷ before)) (not (list_all is_plain (b ∷ e ∷ before))) (smooth_awaits (e ∷ before) b calm)
    (not_from_false (list_all is_plain (b ∷ e ∷ before)) (and_right (is_plain b) (list_all is_plain (e ∷ before)) (and_left (is_plain e) (list_all is_plain before) other)))

sign_joins : (before : List ℕ) (s : ℕ) → is_sign s ≡ true → awaits_sign before ≡ true → number_joins before s ≡ true
unfolding number_joins
sign_joins before s h k = or_right (is_word_byte s || s == 46) (is_sign s && awaits_sign before) (and_from (is_sign s) (awaits_sign before) h k)

digit_joined : (b : ℕ) → is_digit b ≡ true → is_joined b ≡ true
digit_joined b h = or_left (is_word_byte b) (b == 46) (digit_is_word b h)

digits_joined : (ds suffix : List ℕ) → AllDigits 10 ds → IsOneOf suffix float_marks → list_all is_joined (ds ++ suffix) ≡ true
digits_joined ds suffix is mark =
    all_both is_joined ds suffix (all_from is_digit is_joined digit_joined ds (all_decimal ds is))
    (all_from is_smooth is_joined (λ b h. (and_parts (is_joined b) (not (is_power b)) h).0) suffix (mark_smooth suffix mark))

signed_run : (before : List ℕ) (e s : ℕ) (ds suffix rest : List ℕ) → is_power e ≡ true → is_plain e ≡ false → is_sign s ≡ true → is_power s ≡ false → AllDigits 10 ds → IsOneOf suffix float_marks → goes_on_digits rest ≡ false
    → list_all is_plain before ≡ true → run_by number_joins (e ∷ before) (s ∷ (ds ++ suffix) ++ rest) ≡ suc (length (ds ++ suffix))
signed_run before e s ds suffix rest he other hs calm is mark end all =
    ap (λ (b : Bool). cond b (suc (run_by number_joins (s ∷ e ∷ before) ((ds ++ suffix) ++ rest))) 0) (sign_joins (e ∷ before) s hs (power_awaits before e he all))
    ∙ ap suc (run_on is_joined after_letter joined_quiet (s ∷ e ∷ before) (ds ++ suffix) rest (after_power before e s other calm) (digits_joined ds suffix is mark) end)

unsigned_run : (before : List ℕ) (e : ℕ) (ds suffix rest : List ℕ) → is_plain e ≡ false → IsNumeral 10 ds → IsOneOf suffix float_marks → goes_on_digits rest ≡ false → run_by number_joins (e ∷ before) ((ds ++ suffix) ++ rest) ≡ length (ds ++ suffix)
unsigned_run before e [] suffix rest other is mark end = absurd (omega (arith, is.0))
unsigned_run before e (d ∷ ds) suffix rest other is mark end =
    let digit : is_digit d ≡ true = decimal_digit_is d is.1.0 in
    ap (λ (b : Bool). cond b (suc (run_by number_joins (d ∷ e ∷ before) ((ds ++ suffix) ++ rest))) 0) (joins (e ∷ before) d (digit_joined d digit))
    ∙ ap suc (run_on is_joined after_letter joined_quiet (d ∷ e ∷ before) (ds ++ suffix) rest (after_power before e d other (plain_no_power d (digit_is_plain d digit))) (digits_joined ds suffix is.1.1 mark) end)

signs_told : (is_sign 43 ≡ true) × (is_power 43 ≡ false) × (is_sign 45 ≡ true) × (is_power 45 ≡ false)
unfolding is_sign is_power
signs_told = (refl, refl, refl, refl)

exponent_run : (before : List ℕ) (e : ℕ) (sign ds suffix rest : List ℕ) → is_power e ≡ true → is_plain e ≡ false → is_joined e ≡ true → IsOneOf sign signs → IsNumeral 10 ds → IsOneOf suffix float_marks → goes_on_digits rest ≡ false
    → list_all is_plain before ≡ true → run_by number_joins before ((e ∷ sign ++ (ds ++ suffix)) ++ rest) ≡ length (e ∷ sign ++ (ds ++ suffix))
exponent_run before e sign ds suffix rest he other word hs is mark end all =
    let u : List ℕ = ds ++ suffix in
    let G : List ℕ → Type 0 = λ (l : List ℕ). run_by number_joins (e ∷ before) ((l ++ u) ++ rest) ≡ length (l ++ u) in
    let after : G sign =
    elim hs [
      | inl f ↦ subst G (sym f) (unsigned_run before e ds suffix rest other is mark end)
      | inr g ↦ elim g [
        | inl f ↦ subst G (sym f) (signed_run before e 43 ds suffix rest he other signs_told.0 signs_told.1 is.1 mark end all)
        | inr k ↦ elim k [
          | inl f ↦ subst G (sym f) (signed_run before e 45 ds suffix rest he other signs_told.2 signs_told.3 is.1 mark end all)
          | inr none ↦ elim none [ ]
        ]
      ]
    ] in
    ap (λ (b : Bool). cond b (suc (run_by number_joins (e ∷ before) ((sign ++ u) ++ rest))) 0) (joins before e word) ∙ ap suc after

letters_told : (is_power 101 ≡ true) × (is_plain 101 ≡ false) × (is_joined 101 ≡ true) × (is_power 69 ≡ true) × (is_plain 69 ≡ false) × (is_joined 69 ≡ true)
unfolding is_power is_plain is_word_byte is_letter is_digit
letters_told = (refl, refl, refl, refl, refl, refl)

power_runs : (power suffix rest : List ℕ) → IsExponent power → IsOneOf suffix float_marks → goes_on_digits rest ≡ false → RunsAfter (power ++ suffix) rest
power_runs power suffix rest (exponent e sign ds he hs is) mark end =
    λ before all.
    let u : List ℕ = sign ++ (ds ++ suffix) in
    let order : e ++ u ≡ (e ++ (sign ++ ds)) ++ suffix = sym (append_assoc e (sign ++ ds) suffix ∙ ap (λ (l : List ℕ). e ++ l) (append_assoc sign ds suffix)) in
    let G : List ℕ → Type 0 = λ (l : List ℕ). run_by number_joins before (l ++ rest) ≡ length l in
    let H : List ℕ → Type 0 = λ (l : List ℕ). G (l ++ u) in
    subst G order
    (elim he [
      | inl f ↦ subst H (sym f) (exponent_run before 101 sign ds suffix rest letters_told.0 letters_told.1 letters_told.2 hs is mark end all)
      | inr g ↦ elim g [
        | inl f ↦ subst H (sym f) (exponent_run before 69 sign ds suffix rest letters_told.3 letters_told.4 letters_told.5 hs is mark end all)
        | inr none ↦ elim none [ ]
      ]
    ])

float_runs : (power suffix rest : List ℕ) → (power ≡ []) ⊎ IsExponent power → IsOneOf suffix float_marks → goes_on_digits rest ≡ false → RunsAfter (power ++ suffix) rest
float_runs power suffix rest h mark end =
    elim h [
      | inl none ↦ subst (λ (l : List ℕ). RunsAfter (l ++ suffix) rest) (sym none) (mark_runs suffix rest mark end)
      | inr is ↦ power_runs power suffix rest is mark end
    ]

begins_dotted : (whole fraction ys rest : List ℕ) → AllDigits 10 whole → AllDigits 10 fraction → 0 < length whole + length fraction → BeginsNumber (((whole ++ 46 ∷ fraction) ++ ys) ++ rest)
begins_dotted [] [] ys rest hw hf some = absurd (omega arith)
begins_dotted [] (d ∷ ds) ys rest hw hf some = inr (refl, decimal_digit_is d hf.0)
begins_dotted (c ∷ cs) fraction ys rest hw hf some = inl (decimal_digit_is c hw.0)

begins_digits : (whole ys rest : List ℕ) → IsNumeral 10 whole → BeginsNumber ((whole ++ ys) ++ rest)
begins_digits [] ys rest is = absurd (omega (arith, is.0))
begins_digits (c ∷ cs) ys rest is = inl (decimal_digit_is c is.1.0)

dot_is_plain : is_plain 46 ≡ true
unfolding is_plain is_digit
dot_is_plain = refl

plain_dotted : (whole fraction : List ℕ) → list_all is_digit whole ≡ true → list_all is_digit fraction ≡ true → list_all is_plain (whole ++ 46 ∷ fraction) ≡ true
plain_dotted whole fraction hw hf =
    all_both is_plain whole (46 ∷ fraction) (all_plain whole hw) (and_from (is_plain 46) (list_all is_plain fraction) dot_is_plain (all_plain fraction hf))

float_run : (bytes rest : List ℕ) → IsFloating bytes → goes_on_digits rest ≡ false → first_piece (bytes ++ rest) ≡ (number_class bytes, length bytes)
float_run bytes rest (with_dot whole fraction power suffix hw hf some hp mark) end =
    let xs : List ℕ = whole ++ 46 ∷ fraction in
    let ys : List ℕ = power ++ suffix in
    let order : xs ++ ys ≡ whole ++ (46 ∷ fraction ++ ys) = append_assoc whole (46 ∷ fraction) ys in
    let plain : list_all is_plain xs ≡ true = plain_dotted whole fraction (all_decimal whole hw) (all_decimal fraction hf) in
    subst (λ (l : List ℕ). first_piece (l ++ rest) ≡ (number_class l, length l)) order
    (plain_read xs ys rest (omega (arith, length-append whole (46 ∷ fraction))) plain (begins_dotted whole fraction ys rest hw hf some) (float_runs power suffix rest hp mark end))
float_run bytes rest (without_dot whole power suffix hw hp mark) end =
    plain_read whole (power ++ suffix) rest hw.0 (all_plain whole (all_decimal whole hw.1)) (begins_digits whole (power ++ suffix) rest hw) (power_runs power suffix rest hp mark end)

pub float_read : (bytes rest : List ℕ) → IsFloating bytes → goes_on_digits rest ≡ false → first_piece (bytes ++ rest) ≡ (Float, length bytes)
float_read bytes rest is end = float_run bytes rest is end ∙ ap (λ (k : Class). (k, length bytes)) (float_class bytes is)
