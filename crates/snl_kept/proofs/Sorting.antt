-- A list in order is the only one with its elements in order.
use Rattle.std.proofs.Common.{arith, ◌≡◌, ℕ, zero, suc, ◌+◌, ◌<◌, Bool, true, false, cond, List, [], ◌∷◌, length, get_or, refl, ap, sym, ◌∙◌, add-one}
use Rattle.std.specs.Cmp.{IsStrictWeakOrder}
use Rattle.std.specs.List.{AllByRecursion, sum_by}
use Rattle.std.specs.List.Sorted.{IsSortedBy}
use Rattle.std.proofs.lemmas.List.Sums.{sum_by-cons}

-- the sum of a number for each element, by recursion
abbrev pub total : {X : Type 0} → (X → ℕ) → List X → ℕ
total f [] = 0
total f (x ∷ xs) = f x + total f xs

total_is : {X : Type 0} (f : X → ℕ) (xs : List X) → total f xs ≡ sum_by f xs
total_is f [] = refl
total_is f (x ∷ xs) = ap (λ n. f x + n) (total_is f xs) ∙ sym (sum_by-cons f x xs)

get_after : {X : Type 0} (x : X) (xs : List X) (k : ℕ) (d : X) → get_or (x ∷ xs) (k + 1) d ≡ get_or xs k d
get_after x xs k d = rw add-one refl

module _ {X : Type 0} (lt : X → X → Bool) (order : IsStrictWeakOrder lt) (same : (x y : X) → lt x y ≡ false → lt y x ≡ false → x ≡ y) where
  -- x goes to its place
  abbrev pub put : X → List X → List X
  put x [] = x ∷ []
  put x (y ∷ ys) = cond (lt y x) (y ∷ put x ys) (x ∷ y ∷ ys)

  abbrev pub all_put : List X → List X
  all_put [] = []
  all_put (x ∷ xs) = put x (all_put xs)

  -- no element goes before x
  abbrev NoneBefore : X → List X → Type 0
  NoneBefore x ys = AllByRecursion (λ y. lt y x ≡ false) ys

  abbrev pub Ordered : List X → Type 0
  Ordered [] = Unit {0}
  Ordered (x ∷ xs) = NoneBefore x xs × Ordered xs

  irreflexive : (x : X) → lt x x ≡ false
  irreflexive x =
      let go : (b : Bool) → lt x x ≡ b → lt x x ≡ false = λ b. elim b as (λ b. lt x x ≡ b → lt x x ≡ false) [ true ↦ λ e. order.one_way x x e | false ↦ λ e. e ] in
      go (lt x x) refl

  -- what is not before y isn't before x either, where y isn't
  none_further : (x y : X) (zs : List X) → lt y x ≡ false → NoneBefore y zs → NoneBefore x zs
  none_further x y [] h below = tt
  none_further x y (z ∷ zs) h below = (order.chain z y x below.0 h, none_further x y zs h below.1)

  none_put : (w x : X) (ys : List X) → lt x w ≡ false → NoneBefore w ys → NoneBefore w (put x ys)
  none_put w x [] h below = (h, tt)
  none_put w x (y ∷ ys) h below =
      elim (lt y x) as (λ b. NoneBefore w (cond b (y ∷ put x ys) (x ∷ y ∷ ys))) [ true ↦ (below.0, none_put w x ys h below.1) | false ↦ (h, below) ]

  ordered_put : (x : X) (ys : List X) → Ordered ys → Ordered (put x ys)
  ordered_put x [] h = (tt, tt)
  ordered_put x (y ∷ ys) h =
      let go : (b : Bool) → lt y x ≡ b → Ordered (cond b (y ∷ put x ys) (x ∷ y ∷ ys)) =
      λ b. elim b as (λ b. lt y x ≡ b → Ordered (cond b (y ∷ put x ys) (x ∷ y ∷ ys))) [
        | true ↦ λ e. (none_put y x ys (order.one_way y x e) h.0, ordered_put x ys h.1)
        | false ↦ λ e. ((e, none_further x y ys e h.0), h)
      ] in
      go (lt y x) refl

  pub ordered_all : (xs : List X) → Ordered (all_put xs)
  ordered_all [] = tt
  ordered_all (x ∷ xs) = ordered_put x (all_put xs) (ordered_all xs)

  total_put : (f : X → ℕ) (x : X) (ys : List X) → total f (put x ys) ≡ f x + total f ys
  total_put f x [] = omega arith
  total_put f x (y ∷ ys) =
      elim (lt y x) as (λ b. total f (cond b (y ∷ put x ys) (x ∷ y ∷ ys)) ≡ f x + (f y + total f ys)) [
        | true ↦ omega (arith, total_put f x ys)
        | false ↦ refl
      ]

  pub total_all : (f : X → ℕ) (xs : List X) → total f (all_put xs) ≡ total f xs
  total_all f [] = refl
  total_all f (x ∷ xs) = total_put f x (all_put xs) ∙ ap (λ n. f x + n) (total_all f xs)

  -- one where an element goes before x
  abbrev before : X → X → ℕ
  before x y = cond (lt y x) 1 0

  none_counted : (x : X) (ys : List X) → NoneBefore x ys → total (before x) ys ≡ 0
  none_counted x [] h = refl
  none_counted x (y ∷ ys) h =
      let first : before x y ≡ 0 = ap (λ b. cond b 1 0) h.0 in
      omega (arith, first, none_counted x ys h.1)

  -- the first of one list in order isn't before that of another with the same elements
  first_least : (x y : X) (xs ys : List X) → Ordered (x ∷ xs) → ((f : X → ℕ) → total f (x ∷ xs) ≡ total f (y ∷ ys)) → lt y x ≡ false
  first_least x y xs ys h sums =
      let go : (b : Bool) → lt y x ≡ b → lt y x ≡ false =
      λ b. elim b as (λ b. lt y x ≡ b → lt y x ≡ false) [
        | true ↦ λ e.
            let one : before x y ≡ 1 = ap (λ b. cond b 1 0) e in
            let none : before x x ≡ 0 = ap (λ b. cond b 1 0) (irreflexive x) in
            absurd (omega (arith, one, none, none_counted x xs h.0, sums (before x)))
        | false ↦ λ e. e
      ] in
      go (lt y x) refl

  unique : (xs ys : List X) → Ordered xs → Ordered ys → ((f : X → ℕ) → total f xs ≡ total f ys) → xs ≡ ys
  unique [] [] h k sums = refl
  unique [] (y ∷ ys) h k sums = absurd (omega (arith, sums (λ z. 1)))
  unique (x ∷ xs) [] h k sums = absurd (omega (arith, sums (λ z. 1)))
  unique (x ∷ xs) (y ∷ ys) h k sums =
      let first : x ≡ y = same x y (first_least y x ys xs k (λ f. sym (sums f))) (first_least x y xs ys h sums) in
      let rest : xs ≡ ys = unique xs ys h.1 k.1 (λ f. let e : f x ≡ f y = ap f first in omega (arith, e, sums f)) in
      ap (λ z. z ∷ xs) first ∙ ap (λ zs. y ∷ zs) rest

  rest_sorted : (x : X) (xs : List X) → IsSortedBy lt (x ∷ xs) → IsSortedBy lt xs
  rest_sorted x xs up = λ k d low h.
      ap (λ z. lt z (get_or xs k d)) (sym (get_after x xs (k + 1) d))
      ∙ ap (λ z. lt (get_or (x ∷ xs) (k + 1 + 1) d) z) (sym (get_after x xs k d))
      ∙ up (k + 1) d (omega arith) (omega arith)

  ordered_sorted : (xs : List X) → IsSortedBy lt xs → Ordered xs
  ordered_sorted [] up = tt
  ordered_sorted (x ∷ []) up = (tt, tt)
  ordered_sorted (x ∷ y ∷ ys) up =
      let rest : Ordered (y ∷ ys) = ordered_sorted (y ∷ ys) (rest_sorted x (y ∷ ys) up) in
      let first : lt y x ≡ false = up 0 x (omega arith) (omega arith) in
      ((first, none_further x y ys first rest.0), rest)

  sorted_from : (xs : List X) → Ordered xs → (k : ℕ) (d : X) → k + 1 < length xs → lt (get_or xs (k + 1) d) (get_or xs k d) ≡ false
  sorted_from [] h k d within = absurd (omega arith)
  sorted_from (x ∷ []) h k d within = absurd (omega arith)
  sorted_from (x ∷ y ∷ ys) h zero d within = h.0.0
  sorted_from (x ∷ y ∷ ys) h (suc k) d within =
      let next : suc k + 1 ≡ (k + 1) + 1 = omega arith in
      ap (λ n. lt (get_or (x ∷ y ∷ ys) n d) (get_or (y ∷ ys) k d)) next
      ∙ ap (λ z. lt z (get_or (y ∷ ys) k d)) (get_after x (y ∷ ys) (k + 1) d)
      ∙ sorted_from (y ∷ ys) h.1 k d (omega arith)

  pub sorted_is : (xs ys : List X) → ((f : X → ℕ) → sum_by f ys ≡ sum_by f xs) → IsSortedBy lt ys → ys ≡ all_put xs
  sorted_is xs ys sums up = unique ys (all_put xs) (ordered_sorted ys up) (ordered_all xs) (λ f. total_is f ys ∙ sums f ∙ sym (total_is f xs) ∙ sym (total_all f xs))

  -- and lists with the same elements are in one order
  pub same_put : (xs ys : List X) → ((f : X → ℕ) → total f xs ≡ total f ys) → all_put xs ≡ all_put ys
  same_put xs ys sums = unique (all_put xs) (all_put ys) (ordered_all xs) (ordered_all ys) (λ f. total_all f xs ∙ sums f ∙ sym (total_all f ys))
