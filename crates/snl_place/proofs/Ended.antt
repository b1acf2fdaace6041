-- A line ends before an offset exactly if more lines end before it than come before the line.
use Rattle.std.proofs.Common.{ℕ, zero, suc, ◌<◌, ◌≤◌, Bool, true, false, cond, nat_lt}
use Rattle.std.proofs.Common.{List, [], ◌∷◌, length, get_or, arith}
use Rattle.std.specs.List.Sorted.{IsNonDecreasing}
use Rattle.std.proofs.lemmas.Bool.{le-ltb, lt-ltb}
use Rattle.snl_facts.specs.Counts.{count_cons, count_no, count_yes}
use Rattle.snl_lex.specs.LineLaws.{below}

bit_small : (b : Bool) → cond b 1 0 ≤ 1
bit_small true = omega arith
bit_small false = omega arith

rest_rises : (e : ℕ) (es : List ℕ) → IsNonDecreasing (e ∷ es) → IsNonDecreasing es
rest_rises e es rises = λ i j d le lt. rises (suc i) (suc j) d (omega (arith, le)) (omega (arith, lt))

pub ended_counts : (es : List ℕ) (line offset : ℕ) → IsNonDecreasing es → line < length es
    → get_or es line 0 < offset → line < below offset es
ended_counts [] line offset rises there less = absurd (omega (arith, there))
ended_counts (e ∷ es) zero offset rises there less =
    omega (arith, count_yes (λ x. nat_lt x offset) e es (lt-ltb e offset less))
ended_counts (e ∷ es) (suc line) offset rises there less =
    let first : e ≤ get_or es line 0 = rises 0 (suc line) 0 (omega arith) there in
    let again = ended_counts es line offset (rest_rises e es rises) (omega (arith, there)) less in
    omega (
      arith,
      again,
      count_yes (λ x. nat_lt x offset) e es (lt-ltb e offset (omega (arith, first, less))),
    )

none_counts : (e : ℕ) (es : List ℕ) (offset : ℕ) → IsNonDecreasing (e ∷ es) → offset ≤ e
    → below offset (e ∷ es) ≤ 0
none_counts e [] offset rises late =
    omega (arith, count_no (λ x. nat_lt x offset) e [] (le-ltb e offset late))
none_counts e (f ∷ es) offset rises late =
    let next : e ≤ f = rises 0 1 0 (omega arith) (omega arith) in
    let again = none_counts f es offset (rest_rises e (f ∷ es) rises) (omega (arith, next, late)) in
    omega (arith, again, count_no (λ x. nat_lt x offset) e (f ∷ es) (le-ltb e offset late))

pub not_ended_counts : (es : List ℕ) (line offset : ℕ) → IsNonDecreasing es → line < length es
    → offset ≤ get_or es line 0 → below offset es ≤ line
not_ended_counts [] line offset rises there late = absurd (omega (arith, there))
not_ended_counts (e ∷ es) zero offset rises there late = none_counts e es offset rises late
not_ended_counts (e ∷ es) (suc line) offset rises there late =
    let again =
    not_ended_counts es line offset (rest_rises e es rises) (omega (arith, there)) late in
    omega (arith, again, count_cons (λ x. nat_lt x offset) e es, bit_small (nat_lt e offset))
