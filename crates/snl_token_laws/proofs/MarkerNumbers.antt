-- The number of a marker is the one that is written in it.
use Rattle.std.proofs.Common.{◌≡◌, ◌==◌, ℕ, suc, ◌+◌, ◌<◌, ◌≤◌, inl, inr, Bool, true, false, ◌&&◌, ◌||◌, cond, nat_le, nat_lt, List, [], ◌∷◌, ◌++◌, length, drop, take, get_or, Some, None, refl, sym, ap, ◌∙◌, arith, length-append}
use Rattle.std.specs.Prelude.{codes, decimal, if◌then◌else◌, slice_index}
use Rattle.std.specs.List.{list_all}
use Rattle.std.specs.Str.{bytes_eq}
use Rattle.std.specs.Str.Parse.{IsNumeral, digits_value}
use Rattle.std.proofs.lemmas.Bool.{and_parts, le-leb, lt-ltb, or_left, or_right}
use Rattle.std.proofs.lemmas.Bool.Decides.{nat_tests}
use Rattle.std.proofs.lemmas.Fmt.{decimal_is_IsNumeral, length-decimal-le}
use Rattle.std.proofs.lemmas.List.{get_or-drop}
use Rattle.std.proofs.Math.Seq.{take-append_seam}
use Rattle.snl_lex.specs.declared.alphabet.NumberBase.TheVariants.{Decimal}
use Rattle.snl_lex.specs.Alphabet.{is_digit, is_gap, is_white}
use Rattle.snl_lex.specs.Lines.{digit_count, gap_end, marker_number, number_place, number_stop, written_number}
use Rattle.snl_lex.specs.Numbers.{value_after}
use Rattle.snl_lex.specs.Runs.{run_of}
use Rattle.snl_token_laws.specs.Written.{EndsNumber}
use Rattle.snl_token_laws.proofs.Values.{all_digits, decimal_digit_is, same_value}

-- ---- the digits

-- A run ends with the bytes that pass, if the byte after them doesn't.
pub run_end : (p : ℕ → Bool) (xs ys : List ℕ) → list_all p xs ≡ true → p (slice_index ys 0) ≡ false → run_of p (xs ++ ys) ≡ length xs
run_end p [] [] all stop = refl
run_end p [] (y ∷ ys) all stop = ap (λ (b : Bool). cond b (suc (run_of p ys)) 0) stop
run_end p (x ∷ xs) ys all stop =
    let parts = and_parts (p x) (list_all p xs) all in
    ap (λ (b : Bool). cond b (suc (run_of p (xs ++ ys))) 0) parts.0 ∙ ap suc (run_end p xs ys parts.1 stop)

byte_after : (xs ys : List ℕ) → get_or (xs ++ ys) (length xs) 0 ≡ get_or ys 0 0
byte_after [] ys = refl
byte_after (x ∷ xs) ys = byte_after xs ys

no_digit : (b : ℕ) → is_white b ≡ true → is_digit b ≡ false
unfolding is_white is_digit
no_digit b h = grind (arith, nat_tests)

pub zero_no_digit : is_digit 0 ≡ false
unfolding is_digit
zero_no_digit = refl

pub end_no_digit : (rest : List ℕ) → EndsNumber rest → is_digit (slice_index rest 0) ≡ false
end_no_digit rest h =
    elim h [
      | inl none ↦ ap (λ (l : List ℕ). is_digit (slice_index l 0)) none ∙ zero_no_digit
      | inr white ↦ no_digit (slice_index rest 0) white
    ]

some_if : (a b c d : Bool) (w : ℕ) → a ≡ true → b ≡ true → c ≡ true → d ≡ true → (if a && b && c && d then Some w else None) ≡ Some w
some_if true true true true w h i j k = refl
some_if true true true false w h i j k = cc
some_if true true false d w h i j k = cc
some_if true false c d w h i j k = cc
some_if false b c d w h i j k = cc

-- A marker whose number is at a place.
pub number_told : (marker : List ℕ) (place : ℕ) (ds rest : List ℕ) (n : ℕ) → number_place marker ≡ place → drop place marker ≡ ds ++ rest → length marker ≡ place + length (ds ++ rest)
    → list_all is_digit ds ≡ true → 0 < length ds → length ds ≤ 10 → value_after Decimal 0 ds ≡ n → n ≤ 2147483647 → EndsNumber rest → marker_number marker ≡ Some n
unfolding marker_number
number_told marker place ds rest n at there size all some few worth small ends =
    let digits : drop (number_place marker) marker ≡ ds ++ rest = ap (λ (k : ℕ). drop k marker) at ∙ there in
    let count : digit_count marker ≡ length ds = ap (run_of is_digit) digits ∙ run_end is_digit ds rest all (end_no_digit rest ends) in
    let stop : number_stop marker ≡ place + length ds = omega arith in
    let value : written_number marker ≡ n =
    ap (λ (k : ℕ). value_after Decimal 0 (take k (drop (number_place marker) marker))) count
    ∙ (ap (λ (l : List ℕ). value_after Decimal 0 (take (length ds) l)) digits ∙ (ap (value_after Decimal 0) (take-append_seam ds rest) ∙ worth)) in
    let after : slice_index marker (number_stop marker) ≡ slice_index rest 0 =
    ap (slice_index marker) stop ∙ (sym (get_or-drop place marker (length ds) 0) ∙ (ap (λ (l : List ℕ). get_or l (length ds) 0) there ∙ byte_after ds rest)) in
    let ended : (nat_le (length marker) (number_stop marker) || is_white (slice_index marker (number_stop marker))) ≡ true =
    elim ends [
      | inl none ↦
          let whole : length (ds ++ rest) ≡ length ds = omega (arith, length-append ds rest, ap length none) in
          or_left (nat_le (length marker) (number_stop marker)) (is_white (slice_index marker (number_stop marker))) (le-leb (length marker) (number_stop marker) (omega arith))
      | inr white ↦ or_right (nat_le (length marker) (number_stop marker)) (is_white (slice_index marker (number_stop marker))) (ap is_white after ∙ white)
    ] in
    some_if (nat_lt 0 (digit_count marker)) (nat_le (digit_count marker) 10) (nat_le (written_number marker) 2147483647) (nat_le (length marker) (number_stop marker) || is_white (slice_index marker (number_stop marker))) (written_number marker)
    (lt-ltb 0 (digit_count marker) (omega arith)) (le-leb (digit_count marker) 10 (omega arith)) (le-leb (written_number marker) 2147483647 (omega arith)) ended
    ∙ ap Some value

-- ---- where the number is

pub digit_no_gap : (b : ℕ) → is_digit b ≡ true → is_gap b ≡ false
unfolding is_digit is_gap
digit_no_gap b h = grind (arith, nat_tests)

pub digit_no_letter_l : (b : ℕ) → is_digit b ≡ true → (b == 108) ≡ false
unfolding is_digit
digit_no_letter_l b h = grind (arith, nat_tests)

no_gap : (c : ℕ) (cs : List ℕ) → is_digit c ≡ true → run_of is_gap (c ∷ cs) ≡ 0
no_gap c cs h = ap (λ (b : Bool). cond b (suc (run_of is_gap cs)) 0) (digit_no_gap c h)

pub no_word : (a b c : Bool) (x y : ℕ) → a ≡ false → cond ((a && b) && c) x y ≡ y
no_word true b c x y h = cc
no_word false b c x y h = refl

plain_place : (c : ℕ) (cs : List ℕ) → is_digit c ≡ true → number_place (35 ∷ 32 ∷ c ∷ cs) ≡ 2
unfolding number_place is_gap
plain_place c cs h =
    let marker : List ℕ = 35 ∷ 32 ∷ c ∷ cs in
    let from : ℕ → ℕ = λ (k : ℕ). cond (bytes_eq (take 4 (drop (1 + suc k) marker)) (codes "line") && is_gap (slice_index marker (1 + suc k + 4))) (gap_end marker (1 + suc k + 4)) (1 + suc k) in
    ap from (no_gap c cs h) ∙ no_word (c == 108) (bytes_eq (take 3 cs) (codes "ine")) (is_gap (slice_index marker 6)) (gap_end marker 6) 2 (digit_no_letter_l c h)

line_place : (c : ℕ) (cs : List ℕ) → is_digit c ≡ true → number_place (35 ∷ 108 ∷ 105 ∷ 110 ∷ 101 ∷ 32 ∷ c ∷ cs) ≡ 6
unfolding number_place is_gap
line_place c cs h = ap (λ (k : ℕ). 5 + suc k) (no_gap c cs h)

plain_at : (ds rest : List ℕ) (n : ℕ) → IsNumeral 10 ds → digits_value 10 ds ≡ n → length ds ≤ 10 → n ≤ 2147483647 → EndsNumber rest → marker_number (35 ∷ 32 ∷ ds ++ rest) ≡ Some n
plain_at [] rest n is worth few small ends = absurd (omega (arith, is.0))
plain_at (c ∷ cs) rest n is worth few small ends =
    number_told (35 ∷ 32 ∷ (c ∷ cs) ++ rest) 2 (c ∷ cs) rest n (plain_place c (cs ++ rest) (decimal_digit_is c is.1.0)) refl (omega arith)
    (all_digits is_digit 10 (c ∷ cs) decimal_digit_is is.1) (omega arith) few (same_value Decimal 0 (c ∷ cs) is.1 ∙ worth) small ends

line_at_number : (ds rest : List ℕ) (n : ℕ) → IsNumeral 10 ds → digits_value 10 ds ≡ n → length ds ≤ 10 → n ≤ 2147483647 → EndsNumber rest
    → marker_number (35 ∷ 108 ∷ 105 ∷ 110 ∷ 101 ∷ 32 ∷ ds ++ rest) ≡ Some n
line_at_number [] rest n is worth few small ends = absurd (omega (arith, is.0))
line_at_number (c ∷ cs) rest n is worth few small ends =
    number_told (35 ∷ 108 ∷ 105 ∷ 110 ∷ 101 ∷ 32 ∷ (c ∷ cs) ++ rest) 6 (c ∷ cs) rest n (line_place c (cs ++ rest) (decimal_digit_is c is.1.0)) refl (omega arith)
    (all_digits is_digit 10 (c ∷ cs) decimal_digit_is is.1) (omega arith) few (same_value Decimal 0 (c ∷ cs) is.1 ∙ worth) small ends

pub plain_number : (n : ℕ) (rest : List ℕ) → n ≤ 2147483647 → EndsNumber rest → marker_number (35 ∷ 32 ∷ decimal n ++ rest) ≡ Some n
plain_number n rest small ends =
    let is = decimal_is_IsNumeral n (omega arith) in
    plain_at (decimal n) rest n is.0 is.1 (length-decimal-le 10 n (omega arith) (omega arith) (omega arith)) small ends

pub line_number : (n : ℕ) (rest : List ℕ) → n ≤ 2147483647 → EndsNumber rest → marker_number (35 ∷ 108 ∷ 105 ∷ 110 ∷ 101 ∷ 32 ∷ decimal n ++ rest) ≡ Some n
line_number n rest small ends =
    let is = decimal_is_IsNumeral n (omega arith) in
    line_at_number (decimal n) rest n is.0 is.1 (length-decimal-le 10 n (omega arith) (omega arith) (omega arith)) small ends
