-- A list of which one element is replaced.
use Rattle.std.proofs.Common.{◌≡◌, ◌≢◌, ℕ, zero, suc, ◌+◌, ◌<◌, List, [], ◌∷◌, ◌++◌, length, map, take, drop, Some, None, refl, sym, ap, ap₂, ◌∙◌, arith}
use Rattle.std.specs.List.{slice_get, slice_set}
use Rattle.std.proofs.lemmas.Option.{same_Some}
use Rattle.std.proofs.lemmas.List.{drop-set, take-append-drop, take-set}

pub replaced_parts : {X : Type 0} (xs : List X) (k : ℕ) (x : X) → k < length xs → slice_set xs k x ≡ take k xs ++ (x ∷ drop (k + 1) xs)
replaced_parts {X} xs k x lt = sym (take-append-drop k (slice_set xs k x)) ∙ ap₂ (λ (a b : List X). a ++ b) (take-set xs k x) (drop-set xs k x lt)

-- there is an element with each number
pub none_missing : {X : Type 0} (xs : List X) (n : ℕ) → n < length xs → slice_get xs n ≡ None → ⊥
none_missing [] n lt is = omega (arith, lt)
none_missing (x ∷ xs) zero lt is = cc
none_missing (x ∷ xs) (suc n) lt is = none_missing xs n (omega (arith, lt)) is

-- by what was there
pub replaced_same : {X : Type 0} (xs : List X) (k : ℕ) (x : X) → slice_get xs k ≡ Some x → slice_set xs k x ≡ xs
replaced_same [] k x at = refl
replaced_same {X} (y ∷ ys) zero x at = ap (λ (a : X). a ∷ ys) (sym (same_Some y x at))
replaced_same {X} (y ∷ ys) (suc k) x at = ap (λ (l : List X). y ∷ l) (replaced_same ys k x at)

pub replaced_here : {X : Type 0} (xs : List X) (k : ℕ) (x : X) → k < length xs → slice_get (slice_set xs k x) k ≡ Some x
replaced_here [] k x lt = absurd (omega (arith, lt))
replaced_here (y ∷ ys) zero x lt = refl
replaced_here (y ∷ ys) (suc k) x lt = replaced_here ys k x (omega (arith, lt))

pub replaced_other : {X : Type 0} (xs : List X) (k : ℕ) (x : X) (i : ℕ) → i ≢ k → slice_get (slice_set xs k x) i ≡ slice_get xs i
replaced_other [] k x i apart = refl
replaced_other (y ∷ ys) zero x zero apart = absurd (apart refl)
replaced_other (y ∷ ys) zero x (suc i) apart = refl
replaced_other (y ∷ ys) (suc k) x zero apart = refl
replaced_other (y ∷ ys) (suc k) x (suc i) apart = replaced_other ys k x i (λ e. apart (ap suc e))

-- something of each element that is the same of both
pub replaced_alike : {X Y : Type 0} (f : X → Y) (xs : List X) (k : ℕ) (x y : X) → slice_get xs k ≡ Some x → f y ≡ f x → map f (slice_set xs k y) ≡ map f xs
replaced_alike f [] k x y at same = refl
replaced_alike {Y = Y} f (z ∷ zs) zero x y at same = ap (λ (a : Y). a ∷ map f zs) (same ∙ ap f (sym (same_Some z x at)))
replaced_alike {Y = Y} f (z ∷ zs) (suc k) x y at same = ap (λ (l : List Y). f z ∷ l) (replaced_alike f zs k x y at same)
