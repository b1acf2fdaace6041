-- What follows from the definitions of rows that are changed.
use Rattle.std.proofs.Common.{◌≡◌, ℕ, zero, suc, List, [], ◌∷◌, refl, ap}
use Rattle.snl_tables.specs.Shifted.{changed_at}

-- two changes at one place are one
pub changed_twice : {X : Type 0} (f g : X → X) (n : ℕ) (xs : List X) → changed_at f n (changed_at g n xs) ≡ changed_at (λ x. f (g x)) n xs
changed_twice f g n [] = refl
changed_twice f g zero (x ∷ xs) = refl
changed_twice {X = X} f g (suc n) (x ∷ xs) = ap (λ (l : List X). x ∷ l) (changed_twice f g n xs)
