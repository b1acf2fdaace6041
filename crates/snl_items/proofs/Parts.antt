-- A list of three parts, the middle one of which is replaced.
use Rattle.std.proofs.Common.{◌≡◌, ℕ, ◌+◌, ◌-◌, ◌≤◌, List, ◌++◌, length, take, drop, All, refl, sym, ap, ap₂, ◌∙◌, append_assoc, arith, length-append}
use Rattle.std.proofs.lemmas.List.{drop_at, take_at, drop-drop, take-append-drop}
use Rattle.std.proofs.lemmas.List.Elements.{All-drop, All-same, All-take}
use Rattle.snl_cut.specs.Cut.{IsEdit}

module _ {X : Type 0} (front middle back : List X) where
  pub first_part : (a : ℕ) → length front ≡ a → take a (front ++ (middle ++ back)) ≡ front
  first_part a e = take_at front (middle ++ back) a e

  pub last_part : (b : ℕ) → length front + length middle ≡ b → drop b (front ++ (middle ++ back)) ≡ back
  last_part b e =
      ap (drop b) (sym (append_assoc front middle back)) ∙ drop_at (front ++ middle) back b (length-append front middle ∙ e)

  pub middle_part : (a n : ℕ) → length front ≡ a → length middle ≡ n → take n (drop a (front ++ (middle ++ back))) ≡ middle
  middle_part a n e i = ap (take n) (drop_at front (middle ++ back) a e) ∙ take_at middle back n i

  pub whole_length : length (front ++ (middle ++ back)) ≡ length front + (length middle + length back)
  whole_length = length-append front (middle ++ back) ∙ ap (λ n. length front + n) (length-append middle back)

-- The list with another middle part.
pub parts_replaced : {X : Type 0} (front middle back made : List X) (a b : ℕ) → length front ≡ a → length front + length middle ≡ b
    → front ++ (made ++ back) ≡ take a (front ++ (middle ++ back)) ++ (made ++ drop b (front ++ (middle ++ back)))
parts_replaced {X} front middle back made a b e i =
    sym (ap₂ (λ (x y : List X). x ++ (made ++ y)) (first_part front middle back a e) (last_part front middle back b i))

pub parts_edited : {X : Type 0} (front middle back made : List X) (a b c : ℕ) → length front ≡ a → length front + length middle ≡ b → length front + length made ≡ c
    → IsEdit (front ++ (middle ++ back)) (front ++ (made ++ back)) a b c
parts_edited front middle back made a b c e i j = record {
  old_order = omega arith;
  new_order = omega arith;
  old_inside = omega (arith, whole_length front middle back);
  new_inside = omega (arith, whole_length front made back);
  before = first_part front middle back a e ∙ sym (first_part front made back a e);
  after = last_part front middle back b i ∙ sym (last_part front made back c j);
}

-- A list up to one number, from there up to another, and from there on.
pub in_parts : {X : Type 0} (xs : List X) (a b : ℕ) → a ≤ b → xs ≡ take a xs ++ (take (b - a) (drop a xs) ++ drop b xs)
in_parts {X} xs a b le =
    let there : a + (b - a) ≡ b = omega arith in
    sym (ap (λ (l : List X). take a xs ++ (take (b - a) (drop a xs) ++ l)) (sym (drop-drop (b - a) a xs ∙ ap (λ (n : ℕ). drop n xs) there))
    ∙ ap (λ (l : List X). take a xs ++ l) (take-append-drop (b - a) (drop a xs)) ∙ take-append-drop a xs)

-- What holds of all holds of the part in the middle.
pub all_middle : {X : Type 0} (P : X → Type 0) (xs ys zs all : List X) → all ≡ (xs ++ ys) ++ zs → All P all → All P ys
all_middle {X} P xs ys zs all e h =
    let part : take (length ys) (drop (length xs) all) ≡ ys = ap (λ (l : List X). take (length ys) (drop (length xs) l)) (e ∙ append_assoc xs ys zs) ∙ middle_part xs ys zs (length xs) (length ys) refl refl in
    All-same P ys (take (length ys) (drop (length xs) all)) (sym part) (All-take P (length ys) (drop (length xs) all) (All-drop P (length xs) all h))
