-- What digits are worth, as std counts it, is what the lexer counts.
use Rattle.std.proofs.Common.{◌≡◌, ◌==◌, ℕ, suc, ◌+◌, ◌*◌, ◌^◌, ◌<◌, ◌≤◌, ◌⊎◌, inl, inr, Bool, true, false, ◌&&◌, ◌||◌, cond, nat_lt, List, [], ◌∷◌, length, take, drop, Some, None, refl, sym, ap, ◌∙◌, subst, arith}
use Rattle.std.specs.Prelude.{decimal, slice_index}
use Rattle.std.specs.Char.{digit_value as std_digit_value}
use Rattle.std.specs.Fmt.{digits}
use Rattle.std.specs.List.{list_all}
use Rattle.std.specs.Str.Parse.{AllDigits, IsNumeral, digits_value, digits_value_after}
use Rattle.std.proofs.lemmas.Bool.{and_from, and_parts, cases_lt, lt-ltb, ne_eqb, or_from}
use Rattle.std.proofs.lemmas.Bool.Decides.{nat_tests}
use Rattle.std.proofs.lemmas.Fmt.{decimal_digit, digits_is_IsNumeral, first_decimal}
use Rattle.std.proofs.lemmas.List.{drop_all, take_all}
use Rattle.snl_lex.specs.declared.alphabet.NumberBase.{NumberBase}
use Rattle.snl_lex.specs.declared.alphabet.NumberBase.TheVariants.{Octal, Decimal, Hexadecimal}
use Rattle.snl_lex.specs.Alphabet.{is_digit, is_digit_in, is_hexadecimal_digit, is_octal_digit}
use Rattle.snl_lex.specs.Numbers.{base_of, checked_value, digit_value, from_digits, int_value_of, is_int_suffix, radix, value_after, value_in}
use Rattle.snl_lex.specs.Runs.{run_of}
use Rattle.snl_token_laws.specs.Written.{hexadecimal, octal}
use Rattle.snl_lex.specs.PieceLaws.{small_enough}

-- ---- single digits

-- A digit of base 16 is in one of three ranges.
abbrev Ranges : ℕ → Type 0
Ranges c = ((48 ≤ c) × (c ≤ 57)) ⊎ (((65 ≤ c) × (c ≤ 70)) ⊎ ((97 ≤ c) × (c ≤ 102)))

ranged : (c : ℕ) → std_digit_value c < 16 → Ranges c
ranged c h = grind (arith, nat_tests)

same_digit : (c : ℕ) → std_digit_value c < 16 → digit_value c ≡ std_digit_value c
unfolding digit_value is_digit
same_digit c h = grind (arith, nat_tests)

pub decimal_digit_is : (c : ℕ) → std_digit_value c < 10 → is_digit c ≡ true
unfolding is_digit
decimal_digit_is c h = grind (arith, nat_tests)

pub octal_digit_is : (c : ℕ) → std_digit_value c < 8 → is_octal_digit c ≡ true
unfolding is_octal_digit
octal_digit_is c h = grind (arith, nat_tests)

pub hexadecimal_digit_is : (c : ℕ) → std_digit_value c < 16 → is_hexadecimal_digit c ≡ true
unfolding is_hexadecimal_digit is_digit
hexadecimal_digit_is c h = grind (arith, nat_tests)

-- ---- digits

pub all_digits : (p : ℕ → Bool) (most : ℕ) (ds : List ℕ) → ((c : ℕ) → std_digit_value c < most → p c ≡ true) → AllDigits most ds → list_all p ds ≡ true
all_digits p most [] each h = refl
all_digits p most (c ∷ cs) each h = and_from (p c) (list_all p cs) (each c h.0) (all_digits p most cs each h.1)

radix_small : (base : NumberBase) → radix base ≤ 16
radix_small Octal = omega arith
radix_small Decimal = omega arith
radix_small Hexadecimal = omega arith

pub same_value : (base : NumberBase) (n : ℕ) (ds : List ℕ) → AllDigits (radix base) ds → value_after base n ds ≡ digits_value_after (radix base) n ds
same_value base n [] h = refl
same_value base n (c ∷ cs) h =
    let here : digit_value c ≡ std_digit_value c = same_digit c (omega (arith, h.0, radix_small base)) in
    ap (λ (d : ℕ). value_after base (n * radix base + d) cs) here ∙ same_value base (n * radix base + std_digit_value c) cs h.1

all_run : (p : ℕ → Bool) (xs : List ℕ) → list_all p xs ≡ true → run_of p xs ≡ length xs
all_run p [] h = refl
all_run p (x ∷ xs) h =
    let parts = and_parts (p x) (list_all p xs) h in
    ap (λ (b : Bool). cond b (suc (run_of p xs)) 0) parts.0 ∙ ap suc (all_run p xs parts.1)

-- Digits of the base, and nothing else.
digits_in : (base : NumberBase) (bytes : List ℕ) (v : ℕ) → 0 < length bytes → list_all (is_digit_in base) bytes ≡ true → value_after base 0 bytes ≡ v → v < 18446744073709551616 → value_in base bytes ≡ Some v
unfolding value_in is_int_suffix
digits_in base bytes v some all worth low =
    let count : ℕ = run_of (is_digit_in base) bytes in
    let whole : count ≡ length bytes = all_run (is_digit_in base) bytes all in
    let front : take count bytes ≡ bytes = take_all count bytes (omega arith) in
    let end : drop count bytes ≡ [] = drop_all count bytes (omega arith) in
    let suffix : is_int_suffix (drop count bytes) ≡ true = ap is_int_suffix end in
    let test : (nat_lt 0 count && is_int_suffix (drop count bytes)) ≡ true = and_from (nat_lt 0 count) (is_int_suffix (drop count bytes)) (lt-ltb 0 count (omega arith)) suffix in
    let value : value_after base 0 (take count bytes) ≡ v = ap (value_after base 0) front ∙ worth in
    ap (λ (b : Bool). cond b (checked_value (value_after base 0 (take count bytes))) None) test ∙ ap checked_value value ∙ small_enough v low

-- The digits that std writes.
written_in : (base : NumberBase) (capital : Bool) (v : ℕ) → 2 ≤ radix base → v < radix base ^ 64 → v < 18446744073709551616 → ((c : ℕ) → std_digit_value c < radix base → is_digit_in base c ≡ true)
    → value_in base (digits (radix base) capital v) ≡ Some v
written_in base capital v low high small each =
    let ds : List ℕ = digits (radix base) capital v in
    let is = digits_is_IsNumeral (radix base) capital low (radix_small base) v high in
    digits_in base ds v is.0.0 (all_digits (is_digit_in base) (radix base) ds each is.0.1) (same_value base 0 ds is.0.1 ∙ is.1) small

pub hexadecimal_value : (x capital : Bool) (v : ℕ) → v < 18446744073709551616 → int_value_of (hexadecimal x capital v) ≡ Some v
unfolding int_value_of base_of
hexadecimal_value true capital v h = written_in Hexadecimal capital v (omega arith) (omega arith) h hexadecimal_digit_is
hexadecimal_value false capital v h = written_in Hexadecimal capital v (omega arith) (omega arith) h hexadecimal_digit_is

-- ---- decimal and octal

zero_value : int_value_of (48 ∷ []) ≡ Some 0
unfolding int_value_of base_of value_in is_int_suffix is_octal_digit digit_value is_digit
zero_value = refl

pub decimal_base : (bytes : List ℕ) → (slice_index bytes 0 == 48) ≡ false → base_of bytes ≡ Decimal
unfolding base_of
decimal_base bytes h = ap (λ (b : Bool). cond b (cond (slice_index bytes 1 == 120 || slice_index bytes 1 == 88) Hexadecimal Octal) Decimal) h

pub of_base : (base : NumberBase) (bytes : List ℕ) → base_of bytes ≡ base → int_value_of bytes ≡ value_in base (from_digits base bytes)
unfolding int_value_of
of_base base bytes e = ap (λ (b : NumberBase). value_in b (from_digits b bytes)) e

pub decimal_value : (v : ℕ) → v < 18446744073709551616 → int_value_of (decimal v) ≡ Some v
decimal_value v h =
    elim (cases_lt 0 v) [
      | inl some ↦
          let first : (slice_index (decimal v) 0 == 48) ≡ false = ne_eqb (slice_index (decimal v) 0) 48 (λ e. omega (arith, e, first_decimal v some h)) in
          of_base Decimal (decimal v) (decimal_base (decimal v) first) ∙ written_in Decimal false v (omega arith) (omega arith) h decimal_digit_is
      | inr none ↦
          let zero_is : v ≡ 0 = omega arith in
          let bytes : decimal 0 ≡ 48 ∷ [] = decimal_digit 0 (omega arith) in
          subst (λ (n : ℕ). int_value_of (decimal n) ≡ Some n) (sym zero_is) (ap int_value_of bytes ∙ zero_value)
    ]

octal_base : (c : ℕ) (cs : List ℕ) → is_octal_digit c ≡ true → base_of (48 ∷ c ∷ cs) ≡ Octal
unfolding base_of is_octal_digit
octal_base c cs h =
    let small : (c == 120) ≡ false = grind (arith, nat_tests) in
    let capital : (c == 88) ≡ false = grind (arith, nat_tests) in
    ap (λ (b : Bool). cond b Hexadecimal Octal) (or_from (c == 120) (c == 88) small capital)

octal_at : (ds : List ℕ) (v : ℕ) → IsNumeral 8 ds → digits_value 8 ds ≡ v → v < 18446744073709551616 → int_value_of (48 ∷ ds) ≡ Some v
unfolding digit_value is_digit is_octal_digit
octal_at [] v is worth small = absurd (omega (arith, is.0))
octal_at (c ∷ cs) v is worth small =
    let all : list_all is_octal_digit (c ∷ cs) ≡ true = all_digits is_octal_digit 8 (c ∷ cs) octal_digit_is is.1 in
    of_base Octal (48 ∷ c ∷ cs) (octal_base c cs (octal_digit_is c is.1.0))
    ∙ digits_in Octal (48 ∷ c ∷ cs) v (omega arith) all (same_value Octal 0 (c ∷ cs) is.1 ∙ worth) small

pub octal_value : (v : ℕ) → v < 18446744073709551616 → int_value_of (octal v) ≡ Some v
octal_value v h =
    let is = digits_is_IsNumeral 8 false (omega arith) (omega arith) v (omega arith) in
    octal_at (digits 8 false v) v is.0 is.1 h
