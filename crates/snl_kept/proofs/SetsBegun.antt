-- How many of the first numbers pass a test, as those of the items that begin a state set.
use Rattle.std.proofs.Common.{◌≡◌, ℕ, zero, suc, ◌+◌, ◌≤◌, Bool, true, false, [], ◌∷◌, ◌++◌, length, if◌then◌else◌, ap, arith, length-append}
use Rattle.snl_scope.specs.Below.{all_below}

-- no more than there are
pub count_below : (p : ℕ → Bool) (n : ℕ) → length (all_below p n) ≤ n
count_below p zero = omega arith
count_below p (suc n) = by (p n) (count_below p n)
  where
    by : (b : Bool) → length (all_below p n) ≤ n → length (all_below p n ++ (if b then n ∷ [] else [])) ≤ suc n
    by true few = omega (arith, few, length-append (all_below p n) (n ∷ []))
    by false few = omega (arith, few, length-append (all_below p n) [])

-- and no more than of further ones
pub fewer_below : (p : ℕ → Bool) (n more : ℕ) → length (all_below p n) ≤ length (all_below p (n + more))
fewer_below p n zero = let same : n + 0 ≡ n = omega arith in omega (arith, ap (λ k. length (all_below p k)) same)
fewer_below p n (suc more) =
    let next : n + suc more ≡ suc (n + more) = omega arith in
    omega (
      arith,
      fewer_below p n more,
      ap (λ k. length (all_below p k)) next,
      length-append (all_below p (n + more)) (if p (n + more) then (n + more) ∷ [] else []),
    )
