-- What holds of each element of a list and each later one.
use Rattle.std.proofs.Common.{◌≡◌, ℕ, zero, suc, ◌+◌, ◌<◌, List, [], ◌∷◌, slice_get, Some, subst, arith}
use Rattle.std.specs.List.{AllByRecursion as Each, enumerate_from, flat_map}
use Rattle.snl_facts.specs.Each.{each_weaker, each_both, each_got, two_append, each_flat, each_numbered, EachTwo}

module _ {A : Type 0} (R : A → A → Type 0) where
  -- where something holds of each besides
  pub two_with : (P : A → Type 0) (S : A → A → Type 0) → ((x y : A) → P x → P y → R x y → S x y) → (xs : List A) → Each P xs → EachTwo R xs → EachTwo S xs
  two_with P S h [] p two = tt
  two_with P S h (x ∷ xs) p two =
      (each_weaker (λ y. P y × R x y) (S x) (λ y g. h x y p.0 g.0 g.1) xs (each_both P (R x) xs p.1 two.0), two_with P S h xs p.1 two.1)

  pub two_got : (xs : List A) (i j : ℕ) (x y : A) → EachTwo R xs → i < j → slice_get xs i ≡ Some x → slice_get xs j ≡ Some y → R x y
  two_got [] i j x y h l e f = absurd cc
  two_got (z ∷ zs) zero zero x y h l e f = absurd (omega (arith, l))
  two_got (z ∷ zs) zero (suc j) x y h l e f = let same : z ≡ x = cc in each_got (R x) zs j y (subst (λ w. Each (R w) zs) same h.0) f
  two_got (z ∷ zs) (suc i) zero x y h l e f = absurd (omega (arith, l))
  two_got (z ∷ zs) (suc i) (suc j) x y h l e f = two_got zs i j x y h.1 (omega (arith, l)) e f

-- of what each element gives something holds, and of what two elements give
pub two_flat : {A B : Type 0} (F : A → List B) (R : B → B → Type 0) (S : A → A → Type 0) (K : A → B → Type 0)
    → ((x y : A) → S x y → (f g : B) → K x f → K y g → R f g) → (xs : List A) → EachTwo S xs → Each (λ x. Each (K x) (F x) × EachTwo R (F x)) xs → EachTwo R (flat_map F xs)
two_flat F R S K h [] two own = tt
two_flat {B = B} F R S K h (x ∷ xs) two own =
    two_append R (K x) (λ g. (f : B) → K x f → R f g) (λ f g kf q. q f kf) (F x) (flat_map F xs) own.0.0 own.0.1
    (each_flat F (λ g. (f : B) → K x f → R f g) (λ y. S x y × (Each (K y) (F y) × EachTwo R (F y)))
    (λ y g. each_weaker (K y) (λ b. (f : B) → K x f → R f b) (λ b kb f kf. h x y g.0 f b kf kb) (F y) g.1.0)
    xs (each_both (S x) (λ y. Each (K y) (F y) × EachTwo R (F y)) xs two.0 own.1))
    (two_flat F R S K h xs two.1 own.1)

pub two_numbered : {A : Type 0} (R : A → A → Type 0) (n : ℕ) (xs : List A) → EachTwo R xs → EachTwo (λ p q. R p.1 q.1) (enumerate_from n xs)
two_numbered R n [] p = tt
two_numbered R n (x ∷ xs) p = (each_numbered (R x) (n + 1) xs p.0, two_numbered R (n + 1) xs p.1)
