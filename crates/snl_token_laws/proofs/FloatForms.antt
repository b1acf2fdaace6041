-- What the lexer takes for a floating number is one as it is written, and the other way round.
use Rattle.std.proofs.Common.{◌≡◌, ◌==◌, ◌⊎◌, inl, inr, ℕ, suc, ◌+◌, ◌<◌, ◌≤◌, Bool, true, false, not, ◌&&◌, ◌||◌, cond, nat_le, nat_lt, List, [], ◌∷◌, ◌++◌, length, take, drop, refl, sym, ap, ◌∙◌, subst, arith, append_assoc, eq-eqb, eqb-true, length-append, length-take}
use Rattle.std.specs.Prelude.{codes, slice_index}
use Rattle.std.specs.List.{list_all}
use Rattle.std.specs.Str.Parse.{AllDigits, IsNumeral}
use Rattle.std.proofs.lemmas.Bool.{and_from, and_parts, cases_Bool, leb-true, lt-ltb, ltb-true, not-true, or_from, or_left, or_right}
use Rattle.std.proofs.lemmas.Bool.Decides.{nat_tests}
use Rattle.std.proofs.lemmas.List.{take-append-drop}
use Rattle.std.proofs.Math.Seq.{drop-append_seam, take-append_seam}
use Rattle.snl_lex.specs.declared.alphabet.NumberBase.TheVariants.{Decimal}
use Rattle.snl_lex.specs.Alphabet.{is_digit, is_plain}
use Rattle.snl_lex.specs.Numbers.{dots_in, is_exponent, is_float, is_float_suffix, is_power, is_power_part, is_sign, sign_length}
use Rattle.snl_lex.specs.Runs.{run_of}
use Rattle.snl_facts.specs.Counts.{count_no, count_yes}
use Rattle.snl_token_laws.specs.Numbers.{IsExponent, IsFloating, IsOneOf, float_marks}
use Rattle.snl_token_laws.specs.Numbers.IsExponent.{exponent}
use Rattle.snl_token_laws.specs.Numbers.IsFloating.{with_dot, without_dot}
use Rattle.snl_token_laws.proofs.DigitRuns.{all_below, front_passes, run_within}
use Rattle.snl_token_laws.proofs.MarkerNumbers.{run_end}
use Rattle.snl_token_laws.proofs.Spelled.{any_one, each_one, one_any, or_either}
use Rattle.snl_token_laws.proofs.Values.{all_digits, decimal_digit_is}

abbrev pub signs : List (List ℕ)
signs = [] ∷ codes "+" ∷ codes "-" ∷ []

abbrev pub powers : List (List ℕ)
powers = codes "e" ∷ codes "E" ∷ []

-- ---- what begins the parts

pub all_decimal : (ds : List ℕ) → AllDigits 10 ds → list_all is_digit ds ≡ true
all_decimal ds h = all_digits is_digit 10 ds decimal_digit_is h

pub digit_is_plain : (b : ℕ) → is_digit b ≡ true → is_plain b ≡ true
unfolding is_plain
digit_is_plain b h = or_left (is_digit b) (b == 46) h

pub all_plain : (ds : List ℕ) → list_all is_digit ds ≡ true → list_all is_plain ds ≡ true
all_plain [] h = refl
all_plain (d ∷ ds) h =
    let parts = and_parts (is_digit d) (list_all is_digit ds) h in
    and_from (is_plain d) (list_all is_plain ds) (digit_is_plain d parts.0) (all_plain ds parts.1)

dot_plain : is_plain 46 ≡ true
unfolding is_plain is_digit
dot_plain = refl

plain_digit : (b : ℕ) → is_plain b ≡ false → is_digit b ≡ false
unfolding is_plain is_digit
plain_digit b h = grind (arith, nat_tests)

mark_begins : (suffix : List ℕ) → IsOneOf suffix float_marks → is_plain (slice_index suffix 0) ≡ false
unfolding is_plain is_digit
mark_begins suffix h = not-true (is_plain (slice_index suffix 0)) (each_one (λ s. not (is_plain (slice_index s 0))) suffix float_marks refl h)

mark_test : (suffix : List ℕ) → IsOneOf suffix float_marks → is_float_suffix suffix ≡ true
unfolding is_float_suffix
mark_test suffix h = one_any suffix float_marks h

mark_told : (suffix : List ℕ) → is_float_suffix suffix ≡ true → IsOneOf suffix float_marks
unfolding is_float_suffix
mark_told suffix h = any_one suffix float_marks h

-- ---- an exponent, as it is written

digit_no_sign : (b : ℕ) → is_digit b ≡ true → is_sign b ≡ false
unfolding is_digit is_sign
digit_no_sign b h = or_from (b == 43) (b == 45) (grind (arith, nat_tests)) (grind (arith, nat_tests))

exponent_at : (zs ds suffix : List ℕ) (n : ℕ) → sign_length zs ≡ n → drop n zs ≡ ds ++ suffix → IsNumeral 10 ds → IsOneOf suffix float_marks → is_exponent zs ≡ true
unfolding is_exponent
exponent_at zs ds suffix n size there is mark =
    let u : List ℕ = ds ++ suffix in
    let count : run_of is_digit u ≡ length ds = run_end is_digit ds suffix (all_decimal ds is.1) (plain_digit (slice_index suffix 0) (mark_begins suffix mark)) in
    let rest : drop (length ds) u ≡ suffix = drop-append_seam ds suffix in
    let G : List ℕ → ℕ → Bool = λ (l : List ℕ) (k : ℕ). nat_lt 0 k && is_float_suffix (drop k l) in
    let test : G u (length ds) ≡ true = and_from (nat_lt 0 (length ds)) (is_float_suffix (drop (length ds) u)) (lt-ltb 0 (length ds) is.0) (ap is_float_suffix rest ∙ mark_test suffix mark) in
    ap (λ (k : ℕ). G (drop k zs) (run_of is_digit (drop k zs))) size ∙ ap (λ (l : List ℕ). G l (run_of is_digit l)) there ∙ ap (G u) count ∙ test

unsigned_exponent : (ds suffix : List ℕ) → IsNumeral 10 ds → IsOneOf suffix float_marks → is_exponent (ds ++ suffix) ≡ true
unsigned_exponent [] suffix is mark = absurd (omega (arith, is.0))
unsigned_exponent (c ∷ cs) suffix is mark =
    exponent_at (c ∷ cs ++ suffix) (c ∷ cs) suffix 0 (ap (λ (b : Bool). cond b 1 0) (digit_no_sign c (decimal_digit_is c is.1.0))) refl is mark

signed : (b : ℕ) (bs : List ℕ) → is_sign b ≡ true → sign_length (b ∷ bs) ≡ 1
signed b bs h = ap (λ (t : Bool). cond t 1 0) h

signs_are : (is_sign 43 ≡ true) × (is_sign 45 ≡ true)
unfolding is_sign
signs_are = (refl, refl)

exponent_test : (sign ds suffix : List ℕ) → IsOneOf sign signs → IsNumeral 10 ds → IsOneOf suffix float_marks → is_exponent (sign ++ (ds ++ suffix)) ≡ true
exponent_test sign ds suffix h is mark =
    let u : List ℕ = ds ++ suffix in
    elim h [
      | inl e ↦ ap (λ (l : List ℕ). is_exponent (l ++ u)) e ∙ unsigned_exponent ds suffix is mark
      | inr f ↦ elim f [
        | inl e ↦ ap (λ (l : List ℕ). is_exponent (l ++ u)) e ∙ exponent_at (43 ∷ u) ds suffix 1 (signed 43 u signs_are.0) refl is mark
        | inr g ↦ elim g [
          | inl e ↦ ap (λ (l : List ℕ). is_exponent (l ++ u)) e ∙ exponent_at (45 ∷ u) ds suffix 1 (signed 45 u signs_are.1) refl is mark
          | inr none ↦ elim none [ ]
        ]
      ]
    ]

-- What is an exponent at the front begins with no digit and no dot.
record BeginsPower (bytes : List ℕ) : Type 0 where
  test : is_power_part bytes ≡ true
  begins : is_plain (slice_index bytes 0) ≡ false

letters_are : (is_power 101 ≡ true) × (is_power 69 ≡ true) × (is_plain 101 ≡ false) × (is_plain 69 ≡ false)
unfolding is_power is_plain is_digit
letters_are = (refl, refl, refl, refl)

power_at : (b : ℕ) (zs : List ℕ) → is_power b ≡ true → is_plain b ≡ false → is_exponent zs ≡ true → BeginsPower (b ∷ zs)
unfolding is_power_part
power_at b zs letter other rest = record { test = and_from (is_power b) (is_exponent zs) letter rest; begins = other }

power_test : (power suffix : List ℕ) → IsExponent power → IsOneOf suffix float_marks → BeginsPower (power ++ suffix)
power_test power suffix (exponent e sign ds he hs is) mark =
    let u : List ℕ = sign ++ (ds ++ suffix) in
    let test : is_exponent u ≡ true = exponent_test sign ds suffix hs is mark in
    let order : e ++ u ≡ (e ++ (sign ++ ds)) ++ suffix = sym (append_assoc e (sign ++ ds) suffix ∙ ap (λ (l : List ℕ). e ++ l) (append_assoc sign ds suffix)) in
    subst BeginsPower order
    (elim he [
      | inl f ↦ subst (λ (l : List ℕ). BeginsPower (l ++ u)) (sym f) (power_at 101 u letters_are.0 letters_are.2 test)
      | inr g ↦ elim g [
        | inl f ↦ subst (λ (l : List ℕ). BeginsPower (l ++ u)) (sym f) (power_at 69 u letters_are.1 letters_are.3 test)
        | inr none ↦ elim none [ ]
      ]
    ])

-- ---- a floating number, as it is written

abbrev float_by : List ℕ → List ℕ → Bool
float_by xs ys = nat_lt (dots_in xs) (length xs) && ((dots_in xs == 1 && is_float_suffix ys) || (nat_le (dots_in xs) 1 && is_power_part ys))

float_told : (xs ys : List ℕ) → list_all is_plain xs ≡ true → is_plain (slice_index ys 0) ≡ false → is_float (xs ++ ys) ≡ float_by xs ys
unfolding is_float
float_told xs ys all stop =
    let u : List ℕ = xs ++ ys in
    let count : run_of is_plain u ≡ length xs = run_end is_plain xs ys all stop in
    let G : List ℕ → List ℕ → ℕ → Bool = λ (l m : List ℕ) (k : ℕ). nat_lt (dots_in l) k && ((dots_in l == 1 && is_float_suffix m) || (nat_le (dots_in l) 1 && is_power_part m)) in
    ap (λ (k : ℕ). G (take k u) (drop k u) k) count
    ∙ ap (λ (l : List ℕ). G l (drop (length xs) u) (length xs)) (take-append_seam xs ys)
    ∙ ap (λ (m : List ℕ). G xs m (length xs)) (drop-append_seam xs ys)

digit_no_dot : (b : ℕ) → is_digit b ≡ true → (b == 46) ≡ false
unfolding is_digit
digit_no_dot b h = grind (arith, nat_tests)

abbrev is_dot : ℕ → Bool
is_dot b = b == 46

digits_no_dots : (ds : List ℕ) → list_all is_digit ds ≡ true → dots_in ds ≡ 0
digits_no_dots [] h = refl
digits_no_dots (d ∷ ds) h =
    let parts = and_parts (is_digit d) (list_all is_digit ds) h in
    count_no is_dot d ds (digit_no_dot d parts.0) ∙ digits_no_dots ds parts.1

dotted : (whole fraction : List ℕ) → list_all is_digit whole ≡ true → list_all is_digit fraction ≡ true → (list_all is_plain (whole ++ 46 ∷ fraction) ≡ true) × (dots_in (whole ++ 46 ∷ fraction) ≡ 1)
dotted [] fraction hw hf =
    (and_from (is_plain 46) (list_all is_plain fraction) dot_plain (all_plain fraction hf), count_yes is_dot 46 fraction refl ∙ ap suc (digits_no_dots fraction hf))
dotted (d ∷ ds) fraction hw hf =
    let parts = and_parts (is_digit d) (list_all is_digit ds) hw in
    let again = dotted ds fraction parts.1 hf in
    (and_from (is_plain d) (list_all is_plain (ds ++ 46 ∷ fraction)) (digit_is_plain d parts.0) again.0, count_no is_dot d (ds ++ 46 ∷ fraction) (digit_no_dot d parts.0) ∙ again.1)

-- What follows the digits of a floating number with a dot, and of one without.
abbrev Follows : List ℕ → Type 0
Follows ys = (is_plain (slice_index ys 0) ≡ false) × ((is_float_suffix ys || is_power_part ys) ≡ true)

follows_dot : (power suffix : List ℕ) → (power ≡ []) ⊎ IsExponent power → IsOneOf suffix float_marks → Follows (power ++ suffix)
follows_dot power suffix h mark =
    elim h [
      | inl none ↦ subst (λ (l : List ℕ). Follows (l ++ suffix)) (sym none) (mark_begins suffix mark, or_left (is_float_suffix suffix) (is_power_part suffix) (mark_test suffix mark))
      | inr is ↦ let begins = power_test power suffix is mark in (begins.begins, or_right (is_float_suffix (power ++ suffix)) (is_power_part (power ++ suffix)) begins.test)
    ]

one_dot_test : (n len : ℕ) (f p : Bool) → n ≡ 1 → 1 < len → (f || p) ≡ true → (nat_lt n len && ((n == 1 && f) || (nat_le n 1 && p))) ≡ true
one_dot_test n len f p one long h =
    and_from (nat_lt n len) ((n == 1 && f) || (nat_le n 1 && p)) (lt-ltb n len (omega arith))
    (ap (λ (k : ℕ). (k == 1 && f) || (nat_le k 1 && p)) one ∙ h)

no_dot_test : (n len : ℕ) (f p : Bool) → n ≡ 0 → 0 < len → p ≡ true → (nat_lt n len && ((n == 1 && f) || (nat_le n 1 && p))) ≡ true
no_dot_test n len f p none long h =
    and_from (nat_lt n len) ((n == 1 && f) || (nat_le n 1 && p)) (lt-ltb n len (omega arith))
    (ap (λ (k : ℕ). (k == 1 && f) || (nat_le k 1 && p)) none ∙ h)

pub float_test : (bytes : List ℕ) → IsFloating bytes → is_float bytes ≡ true
float_test bytes (with_dot whole fraction power suffix hw hf some hp mark) =
    let xs : List ℕ = whole ++ 46 ∷ fraction in
    let ys : List ℕ = power ++ suffix in
    let dots = dotted whole fraction (all_decimal whole hw) (all_decimal fraction hf) in
    let after = follows_dot power suffix hp mark in
    let long : 1 < length xs = omega (arith, length-append whole (46 ∷ fraction)) in
    ap is_float (sym (append_assoc whole (46 ∷ fraction) ys)) ∙ float_told xs ys dots.0 after.0 ∙ one_dot_test (dots_in xs) (length xs) (is_float_suffix ys) (is_power_part ys) dots.1 long after.1
float_test bytes (without_dot whole power suffix hw hp mark) =
    let ys : List ℕ = power ++ suffix in
    let after = power_test power suffix hp mark in
    let digits : list_all is_digit whole ≡ true = all_decimal whole hw.1 in
    float_told whole ys (all_plain whole digits) after.begins ∙ no_dot_test (dots_in whole) (length whole) (is_float_suffix ys) (is_power_part ys) (digits_no_dots whole digits) hw.0 after.test

-- ---- what the test tells of the bytes

plain_cases : (b : ℕ) → is_plain b ≡ true → (is_digit b ≡ true) ⊎ (b ≡ 46)
unfolding is_plain
plain_cases b h = elim (or_either (is_digit b) (b == 46) h) [ inl d ↦ inl d | inr e ↦ inr (eqb-true b 46 e) ]

dots_cons : (b : ℕ) (xs : List ℕ) → b ≡ 46 → dots_in (b ∷ xs) ≡ suc (dots_in xs)
dots_cons b xs e = count_yes is_dot b xs (eq-eqb b 46 e)

no_dots : (xs : List ℕ) → list_all is_plain xs ≡ true → dots_in xs ≡ 0 → list_all is_digit xs ≡ true
no_dots [] h none = refl
no_dots (x ∷ xs) h none =
    let parts = and_parts (is_plain x) (list_all is_plain xs) h in
    elim (plain_cases x parts.0) [
      | inl d ↦ and_from (is_digit x) (list_all is_digit xs) d (no_dots xs parts.1 (sym (count_no is_dot x xs (digit_no_dot x d)) ∙ none))
      | inr e ↦ absurd (omega (arith, dots_cons x xs e, none))
    ]

-- Digits, a dot, and digits.
record HasDot (xs : List ℕ) : Type 0 where
  whole : List ℕ
  fraction : List ℕ
  before : list_all is_digit whole ≡ true
  after : list_all is_digit fraction ≡ true
  is : xs ≡ whole ++ 46 ∷ fraction

one_dot : (xs : List ℕ) → list_all is_plain xs ≡ true → dots_in xs ≡ 1 → HasDot xs
one_dot [] h one = absurd (omega (arith, one))
one_dot (x ∷ xs) h one =
    let parts = and_parts (is_plain x) (list_all is_plain xs) h in
    elim (plain_cases x parts.0) [
      | inl d ↦
          let again = one_dot xs parts.1 (sym (count_no is_dot x xs (digit_no_dot x d)) ∙ one) in
          record { whole = x ∷ again.whole; fraction = again.fraction; before = and_from (is_digit x) (list_all is_digit again.whole) d again.before; after = again.after; is = ap (λ (l : List ℕ). x ∷ l) again.is }
      | inr e ↦
          let none : dots_in xs ≡ 0 = omega (arith, dots_cons x xs e, one) in
          record { whole = []; fraction = xs; before = refl; after = no_dots xs parts.1 none; is = ap (λ (b : ℕ). b ∷ xs) e }
    ]

-- A sign or none, and what is after it.
record HasSign (zs : List ℕ) : Type 0 where
  sign : List ℕ
  one : IsOneOf sign signs
  is : zs ≡ sign ++ drop (sign_length zs) zs

sign_cases : (b : ℕ) → is_sign b ≡ true → (b ≡ 43) ⊎ (b ≡ 45)
unfolding is_sign
sign_cases b h = elim (or_either (b == 43) (b == 45) h) [ inl e ↦ inl (eqb-true b 43 e) | inr e ↦ inr (eqb-true b 45 e) ]

sign_at : (z : ℕ) (zs : List ℕ) → is_sign z ≡ true → HasSign (z ∷ zs)
sign_at z zs h =
    let there : sign_length (z ∷ zs) ≡ 1 = signed z zs h in
    let one : IsOneOf (z ∷ []) signs = elim (sign_cases z h) [ inl e ↦ inr (inl (ap (λ (b : ℕ). b ∷ []) e)) | inr e ↦ inr (inr (inl (ap (λ (b : ℕ). b ∷ []) e))) ] in
    record { sign = z ∷ []; one = one; is = sym (ap (λ (n : ℕ). z ∷ drop n (z ∷ zs)) there) }

with_sign : (zs : List ℕ) → is_sign (slice_index zs 0) ≡ true → HasSign zs
unfolding is_sign
with_sign [] h = cc
with_sign (z ∷ zs) h = sign_at z zs h

sign_found : (zs : List ℕ) → HasSign zs
sign_found zs =
    elim (cases_Bool (is_sign (slice_index zs 0))) [
      | inl is ↦ with_sign zs is
      | inr is_not ↦ record { sign = []; one = inl refl; is = sym (ap (λ (b : Bool). drop (cond b 1 0) zs) is_not) }
    ]

-- What an exponent is, and what it begins with.
record HasPower (ys : List ℕ) : Type 0 where
  power : List ℕ
  suffix : List ℕ
  is_power : IsExponent power
  mark : IsOneOf suffix float_marks
  is : ys ≡ power ++ suffix

power_of : (e zs : List ℕ) → IsOneOf e powers → is_exponent zs ≡ true → HasPower (e ++ zs)
unfolding is_exponent
power_of e zs letter h =
    let sign = sign_found zs in
    let ds : List ℕ = drop (sign_length zs) zs in
    let count : ℕ = run_of is_digit ds in
    let parts = and_parts (nat_lt 0 count) (is_float_suffix (drop count ds)) h in
    let some : 0 < count = ltb-true 0 count parts.0 in
    let digits : IsNumeral 10 (take count ds) = (omega (arith, length-take count ds, run_within is_digit ds), all_below Decimal (take count ds) (front_passes is_digit ds)) in
    let suffix : List ℕ = drop count ds in
    let inner : zs ≡ sign.sign ++ (take count ds ++ suffix) = sign.is ∙ ap (λ (l : List ℕ). sign.sign ++ l) (sym (take-append-drop count ds)) in
    let order : e ++ (sign.sign ++ (take count ds ++ suffix)) ≡ (e ++ (sign.sign ++ take count ds)) ++ suffix =
    sym (append_assoc e (sign.sign ++ take count ds) suffix ∙ ap (λ (l : List ℕ). e ++ l) (append_assoc sign.sign (take count ds) suffix)) in
    record { power = e ++ (sign.sign ++ take count ds); suffix = suffix; is_power = exponent e sign.sign (take count ds) letter sign.one digits; mark = mark_told suffix parts.1; is = ap (λ (l : List ℕ). e ++ l) inner ∙ order }

letter_cases : (b : ℕ) → is_power b ≡ true → IsOneOf (b ∷ []) powers
unfolding is_power
letter_cases b h = elim (or_either (b == 101) (b == 69) h) [ inl e ↦ inl (ap (λ (c : ℕ). c ∷ []) (eqb-true b 101 e)) | inr e ↦ inr (inl (ap (λ (c : ℕ). c ∷ []) (eqb-true b 69 e))) ]

power_found : (ys : List ℕ) → is_power_part ys ≡ true → HasPower ys
unfolding is_power_part is_power
power_found [] h = cc
power_found (y ∷ ys) h =
    let parts = and_parts (is_power y) (is_exponent ys) h in
    power_of (y ∷ []) ys (letter_cases y parts.0) parts.1

-- ---- a floating number, by what the test tells

dot_form : (xs ys power suffix : List ℕ) → HasDot xs → 1 < length xs → ys ≡ power ++ suffix → (power ≡ []) ⊎ IsExponent power → IsOneOf suffix float_marks → IsFloating (xs ++ ys)
dot_form xs ys power suffix dot long is hp mark =
    let order : dot.whole ++ (46 ∷ dot.fraction ++ (power ++ suffix)) ≡ xs ++ ys =
    sym (append_assoc dot.whole (46 ∷ dot.fraction) (power ++ suffix)) ∙ (ap (λ (l : List ℕ). l ++ (power ++ suffix)) (sym dot.is) ∙ ap (λ (l : List ℕ). xs ++ l) (sym is)) in
    let some : 0 < length dot.whole + length dot.fraction = omega (arith, ap length dot.is, length-append dot.whole (46 ∷ dot.fraction)) in
    subst IsFloating order (with_dot dot.whole dot.fraction power suffix (all_below Decimal dot.whole dot.before) (all_below Decimal dot.fraction dot.after) some hp mark)

zero_only : (n : ℕ) → n ≤ 1 → (n == 1) ≡ false → n ≡ 0
zero_only n few other = grind (arith, nat_tests)

float_parts : (xs ys : List ℕ) → list_all is_plain xs ≡ true → float_by xs ys ≡ true → IsFloating (xs ++ ys)
float_parts xs ys all h =
    let n : ℕ = dots_in xs in
    let parts = and_parts (nat_lt n (length xs)) ((n == 1 && is_float_suffix ys) || (nat_le n 1 && is_power_part ys)) h in
    let long : n < length xs = ltb-true n (length xs) parts.0 in
    elim (or_either (n == 1 && is_float_suffix ys) (nat_le n 1 && is_power_part ys) parts.1) [
      | inl mark ↦
          let is = and_parts (n == 1) (is_float_suffix ys) mark in
          let one : n ≡ 1 = eqb-true n 1 is.0 in
          dot_form xs ys [] ys (one_dot xs all one) (omega arith) refl (inl refl) (mark_told ys is.1)
      | inr power ↦
          let is = and_parts (nat_le n 1) (is_power_part ys) power in
          let few : n ≤ 1 = leb-true n 1 is.0 in
          let found = power_found ys is.1 in
          elim (cases_Bool (n == 1)) [
            | inl one ↦
                let is_one : n ≡ 1 = eqb-true n 1 one in
                dot_form xs ys found.power found.suffix (one_dot xs all is_one) (omega arith) found.is (inr found.is_power) found.mark
            | inr other ↦
                let none : n ≡ 0 = zero_only n few other in
                subst IsFloating (ap (λ (l : List ℕ). xs ++ l) (sym found.is)) (without_dot xs found.power found.suffix (omega arith, all_below Decimal xs (no_dots xs all none)) found.is_power found.mark)
          ]
    ]

pub float_form : (bytes : List ℕ) → is_float bytes ≡ true → IsFloating bytes
unfolding is_float
float_form bytes h =
    let count : ℕ = run_of is_plain bytes in
    let xs : List ℕ = take count bytes in
    let ys : List ℕ = drop count bytes in
    let size : count ≡ length xs = omega (arith, length-take count bytes, run_within is_plain bytes) in
    let told : float_by xs ys ≡ true = sym (ap (λ (k : ℕ). nat_lt (dots_in xs) k && ((dots_in xs == 1 && is_float_suffix ys) || (nat_le (dots_in xs) 1 && is_power_part ys))) size) ∙ h in
    subst IsFloating (take-append-drop count bytes) (float_parts xs ys (front_passes is_plain bytes) told)
