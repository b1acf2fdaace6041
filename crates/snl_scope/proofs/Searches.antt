-- Lemmas on searches among numbers, and on the list that a loop reads by index.
use Rattle.std.proofs.Common.{◌≡◌, ℕ, zero, suc, ◌<◌, Bool, true, false, List, [], ◌∷◌, ◌++◌, length, map, get_or, None, Some, slice_get, nat_lt, refl, sym, ap, ◌∙◌, arith, not-suc-le-zero, if◌then◌else◌}
use borrow.Author.Tests.{lt-leb}
use Rattle.snl_scope.specs.Below.{last_below}

pub last_below-same : (p q : ℕ → Bool) (n : ℕ) → ((k : ℕ) → k < n → p k ≡ q k) → last_below p n ≡ last_below q n
last_below-same p q zero h = refl
last_below-same p q (suc n) h =
    ap (λ b. if b then Some n else last_below p n) (h n (omega arith))
    ∙ ap (λ o. if q n then Some n else o) (last_below-same p q n (λ k l. h k (omega arith)))

pub last_below-none : (p : ℕ → Bool) (n : ℕ) → ((k : ℕ) → k < n → p k ≡ false) → last_below p n ≡ None
last_below-none p zero h = refl
last_below-none p (suc n) h =
    ap (λ b. if b then Some n else last_below p n) (h n (omega arith)) ∙ last_below-none p n (λ k l. h k (omega arith))

-- what is found lies below
pub last_below-within : (p : ℕ → Bool) (n k : ℕ) → last_below p n ≡ Some k → k < n
last_below-within p zero k h = absurd (cc)
last_below-within p (suc n) k h = by (p n) (last_below-within p n k) h
  where
    by : (b : Bool) → (last_below p n ≡ Some k → k < n) → (if b then Some n else last_below p n) ≡ Some k → k < suc n
    by true g e = let m : n ≡ k = cc in omega (arith, m)
    by false g e = let l = g e in omega (arith, l)

pub nat_lt-false : (a b : ℕ) → a < suc b → nat_lt b a ≡ false
nat_lt-false a b h = lt-leb (suc b) a h

-- an element of a list as a loop reads it
pub get-map : {A B : Type 0} (f : A → B) (xs : List A) (i : ℕ) (x : A) → i < length xs → x ≡ get_or xs i x → slice_get (map f xs) i ≡ Some (f x)
get-map f [] i x h e = absurd (not-suc-le-zero h)
get-map f (y ∷ ys) zero x h e = ap (λ z. Some (f z)) (sym e)
get-map f (y ∷ ys) (suc i) x h e = get-map f ys i x (omega (arith, h)) e

pub get-or : {A : Type 0} (xs : List A) (i : ℕ) (d x : A) → slice_get xs i ≡ Some x → get_or xs i d ≡ x
get-or [] i d x h = absurd (cc)
get-or (y ∷ ys) zero d x h = let e : y ≡ x = cc in e
get-or (y ∷ ys) (suc i) d x h = get-or ys i d x h

pub get-front : {A : Type 0} (xs : List A) (x : A) (i : ℕ) → i < length xs → slice_get (xs ++ x ∷ []) i ≡ slice_get xs i
get-front [] x i h = absurd (not-suc-le-zero h)
get-front (y ∷ ys) x zero h = refl
get-front (y ∷ ys) x (suc i) h = get-front ys x i (omega (arith, h))

pub get-last : {A : Type 0} (xs : List A) (x : A) → slice_get (xs ++ x ∷ []) (length xs) ≡ Some x
get-last [] x = refl
get-last (y ∷ ys) x = get-last ys x

pub read-at : {A : Type 0} (xs : List A) (i : ℕ) (x : A) → i < length xs → x ≡ get_or xs i x → slice_get xs i ≡ Some x
read-at [] i x h e = absurd (not-suc-le-zero h)
read-at (y ∷ ys) zero x h e = ap Some (sym e)
read-at (y ∷ ys) (suc i) x h e = read-at ys i x (omega (arith, h)) e

pub index-at : {A : Type 0} (xs : List A) (i : ℕ) (d : A) → i < length xs → slice_get xs i ≡ Some (get_or xs i d)
index-at [] i d h = absurd (not-suc-le-zero h)
index-at (y ∷ ys) zero d h = refl
index-at (y ∷ ys) (suc i) d h = index-at ys i d (omega (arith, h))
