-- Digits at the front of bytes, and what they are to std.
use Rattle.std.proofs.Common.{◌≡◌, inl, inr, ℕ, suc, ◌<◌, ◌≤◌, Bool, true, false, cond, List, [], ◌∷◌, length, take, drop, refl, sym, subst, arith}
use Rattle.std.specs.Prelude.{slice_index}
use Rattle.std.specs.Char.{digit_value as std_digit_value}
use Rattle.std.specs.List.{list_all}
use Rattle.std.specs.Str.Parse.{AllDigits}
use Rattle.std.proofs.lemmas.Bool.{and_from, and_parts, cases_Bool}
use Rattle.std.proofs.lemmas.Bool.Decides.{nat_tests}
use Rattle.snl_lex.specs.declared.alphabet.NumberBase.{NumberBase}
use Rattle.snl_lex.specs.declared.alphabet.NumberBase.TheVariants.{Octal, Decimal, Hexadecimal}
use Rattle.snl_lex.specs.Alphabet.{is_digit, is_digit_in, is_hexadecimal_digit, is_octal_digit}
use Rattle.snl_lex.specs.Numbers.{radix}
use Rattle.snl_lex.specs.Runs.{run_of}
use Rattle.snl_token_laws.proofs.Values.{decimal_digit_is, hexadecimal_digit_is, octal_digit_is}

decimal_below : (c : ℕ) → is_digit c ≡ true → std_digit_value c < 10
unfolding is_digit
decimal_below c h = grind (arith, nat_tests)

octal_below : (c : ℕ) → is_octal_digit c ≡ true → std_digit_value c < 8
unfolding is_octal_digit
octal_below c h = grind (arith, nat_tests)

hexadecimal_below : (c : ℕ) → is_hexadecimal_digit c ≡ true → std_digit_value c < 16
unfolding is_hexadecimal_digit is_digit
hexadecimal_below c h = grind (arith, nat_tests)

-- A digit of the base, and its value as std has it.
pub below : (base : NumberBase) (c : ℕ) → is_digit_in base c ≡ true → std_digit_value c < radix base
below Octal c h = octal_below c h
below Decimal c h = decimal_below c h
below Hexadecimal c h = hexadecimal_below c h

pub digit_is : (base : NumberBase) (c : ℕ) → std_digit_value c < radix base → is_digit_in base c ≡ true
digit_is Octal c h = octal_digit_is c h
digit_is Decimal c h = decimal_digit_is c h
digit_is Hexadecimal c h = hexadecimal_digit_is c h

pub all_below : (base : NumberBase) (ds : List ℕ) → list_all (is_digit_in base) ds ≡ true → AllDigits (radix base) ds
all_below base [] h = tt
all_below base (c ∷ cs) h =
    let parts = and_parts (is_digit_in base c) (list_all (is_digit_in base) cs) h in
    (below base c parts.0, all_below base cs parts.1)

-- ---- the longest run at the front

pub front_passes : (p : ℕ → Bool) (xs : List ℕ) → list_all p (take (run_of p xs) xs) ≡ true
front_passes p [] = refl
front_passes p (x ∷ xs) =
    let r : ℕ = run_of p xs in
    let G : Bool → Type 0 = λ (b : Bool). list_all p (take (cond b (suc r) 0) (x ∷ xs)) ≡ true in
    elim (cases_Bool (p x)) [
      | inl is ↦ subst G (sym is) (and_from (p x) (list_all p (take r xs)) is (front_passes p xs))
      | inr is_not ↦ subst G (sym is_not) refl
    ]

pub rest_stops : (p : ℕ → Bool) → p 0 ≡ false → (xs : List ℕ) → p (slice_index (drop (run_of p xs) xs) 0) ≡ false
rest_stops p none [] = none
rest_stops p none (x ∷ xs) =
    let r : ℕ = run_of p xs in
    let G : Bool → Type 0 = λ (b : Bool). p (slice_index (drop (cond b (suc r) 0) (x ∷ xs)) 0) ≡ false in
    elim (cases_Bool (p x)) [
      | inl is ↦ subst G (sym is) (rest_stops p none xs)
      | inr is_not ↦ subst G (sym is_not) is_not
    ]

pub run_within : (p : ℕ → Bool) (xs : List ℕ) → run_of p xs ≤ length xs
run_within p [] = omega arith
run_within p (x ∷ xs) =
    let r : ℕ = run_of p xs in
    let G : Bool → Type 0 = λ (b : Bool). cond b (suc r) 0 ≤ suc (length xs) in
    let again : r ≤ length xs = run_within p xs in
    elim (cases_Bool (p x)) [
      | inl is ↦ subst G (sym is) (omega arith)
      | inr is_not ↦ subst G (sym is_not) (omega arith)
    ]
