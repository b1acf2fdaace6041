-- Lists that have something for some numbers.
use Rattle.std.specs.Prelude.{◌≡◌, ℕ, false, List, nat_eq, slice_get, Option, Some, option_and_then}

-- What a list has for a number.
abbrev pub at_number : {A : Type 0} → List (Option A) → ℕ → Option A
at_number list n = option_and_then (λ o. o) (slice_get list n)

-- It has this for one number now, and what it had for the others.
pub record IsPutAt {A : Type 0} (old new : List (Option A)) (number : ℕ) (value : A) : Type 0 where
  pub own : slice_get new number ≡ Some (Some value)
  pub others : (n : ℕ) → nat_eq number n ≡ false → at_number new n ≡ at_number old n
