-- A loop along a list: at its end all of it is taken.
use Rattle.std.proofs.Math.Seq.{take_all}
use Rattle.std.proofs.Common.{◌≡◌, ℕ, ◌≤◌, List, length, take, ap, ◌∙◌}

pub all_taken : {A : Type 0} {B : Type 0} (gives : List A → B) (xs : List A) (i : ℕ) (ys : B) → length xs ≤ i → ys ≡ gives (take i xs) → ys ≡ gives xs
all_taken gives xs i ys past was = was ∙ ap gives (take_all i xs past)
