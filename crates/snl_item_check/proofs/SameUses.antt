-- Two lists whose elements say the same, one by one.
use Rattle.std.proofs.Common.{◌≡◌, ℕ, zero, suc, ◌<◌, List, [], ◌∷◌, length, get_or, map, arith}

-- where all say the same, so do those at one place
pub same_at : {X Y Z : Type 0} (f : X → Z) (g : Y → Z) (xs : List X) (ys : List Y) (n : ℕ) (a : X) (b : Y) → n < length xs → map f xs ≡ map g ys → f (get_or xs n a) ≡ g (get_or ys n b)
same_at f g [] ys n a b l h = absurd (omega (arith, l))
same_at f g (x ∷ xs) [] n a b l h = absurd cc
same_at f g (x ∷ xs) (y ∷ ys) zero a b l h = cc
same_at f g (x ∷ xs) (y ∷ ys) (suc n) a b l h =
    let rest : map f xs ≡ map g ys = cc in
    same_at f g xs ys n a b (omega (arith, l)) rest
