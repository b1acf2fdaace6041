-- Digits, and numbers of up to 19 of them.
use Rattle.std.proofs.Common.{◌≡◌, ℕ, ◌+◌, ◌^◌, ◌<◌, ◌≤◌, List, [], ◌∷◌, true, refl, lit<, arith}
use Rattle.std.proofs.Math.Nat.{pow-le-pow_right}
use Rattle.std.proofs.lemmas.Bool.Decides.{nat_tests}
use Rattle.std.proofs.lemmas.Str.{digit_value_digit}
use Rattle.std.specs.Char.{is_ascii_digit, digit_value}
use Rattle.std.specs.Int.{IsInRange}
use Rattle.std.specs.List.{list_all}
use Rattle.std.specs.Str.Parse.{AllDigits}

pub is_digit_by_value : (c : ℕ) → digit_value c < 10 → is_ascii_digit c ≡ true
is_digit_by_value c h = grind (arith, nat_tests)

pub are_digits : (word : List ℕ) → AllDigits 10 word → list_all is_ascii_digit word ≡ true
are_digits [] h = refl
are_digits (c ∷ cs) h = rw (is_digit_by_value c h.0, are_digits cs h.1) refl

pub value_of_digit : (b : ℕ) → is_ascii_digit b ≡ true → (digit_value b + 48 ≡ b) × (b ≤ 57)
value_of_digit b h =
    let inside : IsInRange 48 57 b = (grind (arith, nat_tests), grind (arith, nat_tests)) in
    (digit_value_digit b inside, inside.1)

pub power_of_ten : (i : ℕ) → i ≤ 18 → 10 ^ i ≤ 1000000000000000000
power_of_ten i h = pow-le-pow_right (lit< tt) {i = i} {j = 18} h
