-- Each element of a list and each later one: what the facts of snl_facts lack.
use Rattle.std.proofs.Common.{ℕ, zero, suc, ◌<◌, List, [], ◌∷◌, ◌++◌, IfSome, slice_get}
use Rattle.std.proofs.lemmas.List.Kept.{AllPairs-from_increasing}
use Rattle.std.specs.List.{AllByRecursion as Each}
use Rattle.std.specs.List.Sorted.{IsStrictlyIncreasing}
use Rattle.snl_facts.specs.Each.{Across, EachTwo, each_rear, two_from_pairs}

pub each_at : {A : Type 0} (P : A → Type 0) (xs : List A) (n : ℕ) → Each P xs → IfSome (slice_get xs n) P
each_at P [] n p = tt
each_at P (x ∷ xs) zero p = p.0
each_at P (x ∷ xs) (suc n) p = each_at P xs n p.1

module _ {A : Type 0} (R : A → A → Type 0) where
  pub across_append : (xs ys : List A) → EachTwo R (xs ++ ys) → Across R xs ys
  across_append [] ys p = tt
  across_append (x ∷ xs) ys p = (each_rear (R x) xs ys p.0, across_append xs ys p.1)

  pub two_rear : (xs ys : List A) → EachTwo R (xs ++ ys) → EachTwo R ys
  two_rear [] ys p = p
  two_rear (x ∷ xs) ys p = two_rear xs ys p.1

-- numbers that rise
pub two_from_rising : (xs : List ℕ) → IsStrictlyIncreasing xs → EachTwo (λ a b. a < b) xs
two_from_rising xs h = two_from_pairs (λ a b. a < b) xs (AllPairs-from_increasing xs h)
