-- Lists with the same elements, told by the totals of numbers for each element.
use Rattle.std.proofs.Common.{arith, ◌≡◌, ℕ, ◌+◌, ◌<◌, Bool, true, false, cond, List, [], ◌∷◌, ◌++◌, length, map, filter, Option, Some, None, refl, ap}
use Rattle.std.specs.List.{cons_option, enumerate_from, filter_map, flat_map}
use Rattle.snl_kept.proofs.Sorting.{total}

pub total_append : {X : Type 0} (f : X → ℕ) (xs ys : List X) → total f (xs ++ ys) ≡ total f xs + total f ys
total_append f [] ys = omega arith
total_append f (x ∷ xs) ys = omega (arith, total_append f xs ys)

pub total_map : {X Y : Type 0} (f : Y → ℕ) (g : X → Y) (xs : List X) → total f (map g xs) ≡ total (λ x. f (g x)) xs
total_map f g [] = refl
total_map f g (x ∷ xs) = ap (λ n. f (g x) + n) (total_map f g xs)

-- of those that pass a test
pub total_filter : {X : Type 0} (f : X → ℕ) (p : X → Bool) (xs : List X) → total f (filter p xs) ≡ total (λ x. cond (p x) (f x) 0) xs
total_filter f p [] = refl
total_filter f p (x ∷ xs) =
    elim (p x) as (λ b. total f (cond b (x ∷ filter p xs) (filter p xs)) ≡ cond b (f x) 0 + total (λ y. cond (p y) (f y) 0) xs) [
      | true ↦ ap (λ n. f x + n) (total_filter f p xs)
      | false ↦ omega (arith, total_filter f p xs)
    ]

pub total_option : {X : Type 0} (f : X → ℕ) (o : Option X) (xs : List X) → total f (cons_option o xs) ≡ total f (cons_option o []) + total f xs
total_option f None xs = omega arith
total_option f (Some x) xs = omega arith

-- what is found along a list, in front of an element, at it and after it
pub total_filter_map : {X Y : Type 0} (f : Y → ℕ) (g : X → Option Y) (xs : List X) (y : X) (zs : List X)
    → total f (filter_map g (xs ++ (y ∷ zs))) ≡ total f (filter_map g xs) + (total f (cons_option (g y) []) + total f (filter_map g zs))
total_filter_map f g [] y zs = omega (arith, total_option f (g y) (filter_map g zs))
total_filter_map f g (x ∷ xs) y zs =
    omega (arith, total_option f (g x) (filter_map g (xs ++ (y ∷ zs))), total_option f (g x) (filter_map g xs), total_filter_map f g xs y zs)

pub total_flat_map : {X Y : Type 0} (f : Y → ℕ) (g : ℕ × X → List Y) (n : ℕ) (xs : List X) (y : X) (zs : List X) (m : ℕ) → m ≡ n + length xs
    → total f (flat_map g (enumerate_from n (xs ++ (y ∷ zs)))) ≡ total f (flat_map g (enumerate_from n xs)) + (total f (g (m, y)) + total f (flat_map g (enumerate_from (m + 1) zs)))
total_flat_map f g n [] y zs m is =
    let here : n ≡ m = omega arith in
    let all : total f (flat_map g (enumerate_from n (y ∷ zs))) ≡ total f (g (m, y) ++ flat_map g (enumerate_from (m + 1) zs)) =
    ap (λ (k : ℕ). total f (g (k, y) ++ flat_map g (enumerate_from (k + 1) zs))) here in
    omega (arith, all, total_append f (g (m, y)) (flat_map g (enumerate_from (m + 1) zs)))
total_flat_map f g n (x ∷ xs) y zs m is =
    omega (
      arith,
      total_append f (g (n, x)) (flat_map g (enumerate_from (n + 1) (xs ++ (y ∷ zs)))),
      total_append f (g (n, x)) (flat_map g (enumerate_from (n + 1) xs)),
      total_flat_map f g (n + 1) xs y zs m (omega arith),
    )

-- elements that are taken out of a list
module _ {X : Type 0} (same : X → X → Bool) (told : (x y : X) → same x y ≡ true → x ≡ y) (self : (x : X) → same x x ≡ true) where
  abbrev pub taken : X → List X → List X
  taken x [] = []
  taken x (y ∷ ys) = cond (same x y) ys (y ∷ taken x ys)

  abbrev pub all_taken : List X → List X → List X
  all_taken [] ys = ys
  all_taken (x ∷ xs) ys = all_taken xs (taken x ys)

  -- one for each that is the same
  abbrev counted : X → X → ℕ
  counted x y = cond (same x y) 1 0

  total_taken : (f : X → ℕ) (x : X) (ys : List X) → 0 < total (counted x) ys → f x + total f (taken x ys) ≡ total f ys
  total_taken f x [] some = absurd (omega arith)
  total_taken f x (y ∷ ys) some =
      let go : (b : Bool) → same x y ≡ b → f x + total f (cond b ys (y ∷ taken x ys)) ≡ f y + total f ys =
      λ b. elim b as (λ b. same x y ≡ b → f x + total f (cond b ys (y ∷ taken x ys)) ≡ f y + total f ys) [
        | true ↦ λ e. let is : f x ≡ f y = ap f (told x y e) in omega (arith, is)
        | false ↦ λ e.
            let none : counted x y ≡ 0 = ap (λ b. cond b 1 0) e in
            omega (arith, total_taken f x ys (omega (arith, some, none)))
      ] in
      go (same x y) refl

  pub total_all_taken : (xs ys zs : List X) → ((f : X → ℕ) → total f ys ≡ total f xs + total f zs) → (f : X → ℕ) → total f (all_taken xs ys) ≡ total f zs
  total_all_taken [] ys zs sums f = omega (arith, sums f)
  total_all_taken (x ∷ xs) ys zs sums f =
      let one : counted x x ≡ 1 = ap (λ b. cond b 1 0) (self x) in
      let some : 0 < total (counted x) ys = omega (arith, one, sums (counted x)) in
      total_all_taken xs (taken x ys) zs (λ g. omega (arith, total_taken g x ys some, sums g)) f
