-- Items in the place of as many that said the same to the others.
use Rattle.std.proofs.Common.{◌≡◌, ℕ, suc, ◌+◌, ◌-◌, ◌≤◌, List, [], ◌∷◌, ◌++◌, map, take, drop, slice_get, Some, sym, ap, ap₂, ◌∙◌, arith}
use Rattle.std.proofs.lemmas.List.{drop-drop, drop-map, map-append, take-append-drop, take-map}
use Rattle.snl_kept.proofs.Steps.{take_more}
use Rattle.snl_facts.specs.Lists.{drop_got}

got_from : {Y : Type 0} (front n : ℕ) (ys : List Y) (y : Y) → slice_get ys (front + n) ≡ Some y → drop n (drop front ys) ≡ y ∷ drop (n + 1) (drop front ys)
got_from {Y} front n ys y e =
    let next : suc (front + n) ≡ front + (n + 1) = omega arith in
    drop-drop n front ys
    ∙ drop_got ys (front + n) y e
    ∙ ap (λ (k : ℕ). y ∷ drop k ys) next
    ∙ ap (λ (l : List Y). y ∷ l) (sym (drop-drop (n + 1) front ys))

module _ {X Y : Type 0} (f : X → Y) where
  -- one more of them is the same
  pub one_more : (made values : List X) (front n : ℕ) (x : X) → map f (take n made) ≡ take n (drop front (map f values)) → drop n made ≡ x ∷ drop (n + 1) made
      → slice_get (map f values) (front + n) ≡ Some (f x) → map f (take (n + 1) made) ≡ take (n + 1) (drop front (map f values))
  one_more made values front n x before here there =
      ap (map f) (take_more made n x here)
      ∙ map-append f (take n made) (x ∷ [])
      ∙ ap (λ (l : List Y). l ++ f x ∷ []) before
      ∙ sym (take_more (drop front (map f values)) n (f x) (got_from front n (map f values) (f x) there))

  -- with all of them in place the list is the same
  pub all_same : (front back : ℕ) (made values : List X) → front ≤ back → map f made ≡ take (back - front) (drop front (map f values))
      → map f (take front values ++ (made ++ drop back values)) ≡ map f values
  all_same front back made values order same =
      let ys : List Y = map f values in
      let stop : front + (back - front) ≡ back = omega (arith, order) in
      map-append f (take front values) (made ++ drop back values)
      ∙ ap₂ (λ (a b : List Y). a ++ b) (sym (take-map f front values)) (map-append f made (drop back values))
      ∙ ap₂ (λ (a b : List Y). take front ys ++ (a ++ b)) same (sym (drop-map f back values) ∙ ap (λ (n : ℕ). drop n ys) (sym stop) ∙ sym (drop-drop (back - front) front ys))
      ∙ ap (λ (l : List Y). take front ys ++ l) (take-append-drop (back - front) (drop front ys))
      ∙ take-append-drop front ys

  -- what is told of a list with others in the place of some
  pub mapped_parts : (front back : ℕ) (made values : List X)
      → map f (take front values ++ (made ++ drop back values)) ≡ take front (map f values) ++ (map f made ++ drop back (map f values))
  mapped_parts front back made values =
      map-append f (take front values) (made ++ drop back values)
      ∙ ap₂ (λ (a b : List Y). a ++ b) (sym (take-map f front values)) (map-append f made (drop back values) ∙ ap (λ (l : List Y). map f made ++ l) (sym (drop-map f back values)))
