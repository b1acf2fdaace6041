-- What digits are worth, digit by digit.
use Rattle.std.proofs.Common.{◌≡◌, ℕ, ◌+◌, ◌*◌, ◌<◌, ◌≤◌, List, [], ◌∷◌, length, drop, get_or, None, ap, arith}
use Rattle.std.proofs.lemmas.List.{drop_more}
use Rattle.std.proofs.lemmas.Bool.Decides.{nat_tests}
use Rattle.snl_lex.specs.declared.alphabet.NumberBase.{NumberBase}
use Rattle.snl_lex.specs.declared.alphabet.NumberBase.TheVariants.{Octal, Decimal, Hexadecimal}
use Rattle.snl_lex.specs.Numbers.{radix, digit_value, value_after, checked_value}

pub after_more : (base : NumberBase) (v : ℕ) (ds : List ℕ) (i : ℕ) → i < length ds
    → value_after base v (drop i ds) ≡ value_after base (v * radix base + digit_value (get_or ds i 0)) (drop (i + 1) ds)
after_more base v ds i lt = ap (value_after base v) (drop_more ds i 0 lt)

times : (base : NumberBase) (v d : ℕ) → v ≤ v * radix base + d
times Octal v d = omega arith
times Decimal v d = omega arith
times Hexadecimal v d = omega arith

pub value_grows : (base : NumberBase) (v : ℕ) (ds : List ℕ) → v ≤ value_after base v ds
value_grows base v [] = omega arith
value_grows base v (d ∷ ds) = omega (arith, times base v (digit_value d), value_grows base (v * radix base + digit_value d) ds)

pub too_large : (v : ℕ) → 18446744073709551616 ≤ v → checked_value v ≡ None
too_large v h = grind (arith, nat_tests)
