-- Lists by the places of their elements.
use Rattle.std.proofs.Common.{◌≡◌, ℕ, zero, suc, ◌<◌, List, [], ◌∷◌, length, map, slice_get, Option, None, Some, refl, sym, subst, arith}
use Rattle.std.specs.List.{AllByRecursion as Each, Contains, cons_option, filter_map}
use Rattle.std.proofs.lemmas.List.Elements.{Contains-append_right}
use Rattle.std.proofs.lemmas.Option.{get_or_from_slice_get, slice_get_within}

pub get_here : {X : Type 0} (xs : List X) (j : ℕ) → j < length xs →
    (x : X) × (slice_get xs j ≡ Some x)
get_here [] j l = absurd (omega (arith, l))
get_here (x ∷ xs) zero l = (x, refl)
get_here (x ∷ xs) (suc j) l = get_here xs j (omega (arith, l))

pub contains_got : {X : Type 0} (xs : List X) (k : ℕ) (x : X) → slice_get xs k ≡ Some x →
    Contains xs x
contains_got xs k x at = (k, slice_get_within xs k x at, get_or_from_slice_get xs k x x at)

pub contains_first : {X : Type 0} (x : X) (xs : List X) → Contains (x ∷ xs) x
contains_first x xs = contains_got (x ∷ xs) 0 x refl

pub contains_later : {X : Type 0} (y : X) (xs : List X) (x : X) → Contains xs x →
    Contains (y ∷ xs) x
contains_later y xs x there = Contains-append_right (y ∷ []) xs x there

-- what is made of an element is among what is made of all
pub contains_made : {X Y : Type 0} (f : X → Option Y) (xs : List X) (k : ℕ) (x : X) (y : Y) →
    slice_get xs k ≡ Some x → f x ≡ Some y → Contains (filter_map f xs) y
contains_made f [] k x y at made = absurd cc
contains_made {X} {Y} f (z ∷ zs) zero x y at made =
    let same : f z ≡ Some y = cc in
    by (f z) same
  where
    by : (o : Option Y) → o ≡ Some y → Contains (cons_option o (filter_map f zs)) y
    by None e = absurd cc
    by (Some w) e =
        let is : w ≡ y = cc in
        subst (λ (v : Y). Contains (v ∷ filter_map f zs) y) (sym is)
        (contains_first y (filter_map f zs))
contains_made {X} {Y} f (z ∷ zs) (suc k) x y at made =
    by (f z) (contains_made f zs k x y at made)
  where
    by : (o : Option Y) → Contains (filter_map f zs) y →
        Contains (cons_option o (filter_map f zs)) y
    by None there = there
    by (Some w) there = contains_later w (filter_map f zs) y there

-- what holds of what is made of each element, by its place
pub each_made : {X Y : Type 0} (P : Y → Type 0) (f : X → Y) (xs : List X) →
    ((k : ℕ) (x : X) → slice_get xs k ≡ Some x → P (f x)) → Each P (map f xs)
each_made P f [] h = tt
each_made P f (x ∷ xs) h = (h 0 x refl, each_made P f xs (λ k y at. h (suc k) y at))
