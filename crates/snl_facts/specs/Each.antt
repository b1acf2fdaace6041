-- What holds of each element of a list, and of each element and each later one.
use Rattle.std.proofs.Common.{◌≡◌, ℕ, zero, suc, ◌+◌, ◌<◌, Bool, true, false, cond, List, [], ◌∷◌, ◌++◌, map, filter, take, drop, slice_get, Some, subst, sym, ap, ◌∙◌, arith}
use Rattle.std.proofs.lemmas.List.Elements.{All-from_recursion, recursion_from_All}
use Rattle.std.proofs.lemmas.List.Kept.{AllPairs-cons}
use Rattle.std.specs.List.{AllByRecursion as Each, AllPairs, enumerate_from, flat_map}
use Rattle.std.specs.List.Sorted.{IsStrictlyIncreasing}

abbrev pub EachTwo : {A : Type 0} → (A → A → Type 0) → List A → Type 0
EachTwo R [] = Unit {0}
EachTwo R (x ∷ xs) = Each (R x) xs × EachTwo R xs

module _ {A : Type 0} (P : A → Type 0) where
  pub each_append : (xs ys : List A) → Each P xs → Each P ys → Each P (xs ++ ys)
  each_append [] ys p q = q
  each_append (x ∷ xs) ys p q = (p.0, each_append xs ys p.1 q)

  pub each_front : (xs ys : List A) → Each P (xs ++ ys) → Each P xs
  each_front [] ys p = tt
  each_front (x ∷ xs) ys p = (p.0, each_front xs ys p.1)

  pub each_rear : (xs ys : List A) → Each P (xs ++ ys) → Each P ys
  each_rear [] ys p = p
  each_rear (x ∷ xs) ys p = each_rear xs ys p.1

  pub each_by : ((x : A) → P x) → (xs : List A) → Each P xs
  each_by h [] = tt
  each_by h (x ∷ xs) = (h x, each_by h xs)

  pub each_weaker : (Q : A → Type 0) → ((x : A) → P x → Q x) → (xs : List A) → Each P xs → Each Q xs
  each_weaker Q h [] p = tt
  each_weaker Q h (x ∷ xs) p = (h x p.0, each_weaker Q h xs p.1)

  pub each_both : (Q : A → Type 0) (xs : List A) → Each P xs → Each Q xs → Each (λ x. P x × Q x) xs
  each_both Q [] p q = tt
  each_both Q (x ∷ xs) p q = ((p.0, q.0), each_both Q xs p.1 q.1)

  pub each_got : (xs : List A) (i : ℕ) (x : A) → Each P xs → slice_get xs i ≡ Some x → P x
  each_got [] i x h e = absurd cc
  each_got (y ∷ ys) zero x h e = let same : y ≡ x = cc in subst P same h.0
  each_got (y ∷ ys) (suc i) x h e = each_got ys i x h.1 e

  pub each_map : {B : Type 0} (f : B → A) (xs : List B) → Each (λ x. P (f x)) xs → Each P (map f xs)
  each_map f [] p = tt
  each_map f (x ∷ xs) p = (p.0, each_map f xs p.1)

  pub each_unmap : {B : Type 0} (f : B → A) (xs : List B) → Each P (map f xs) → Each (λ x. P (f x)) xs
  each_unmap f [] p = tt
  each_unmap f (x ∷ xs) p = (p.0, each_unmap f xs p.1)

  pub each_take : (n : ℕ) (xs : List A) → Each P xs → Each P (take n xs)
  each_take zero xs p = tt
  each_take (suc n) [] p = tt
  each_take (suc n) (x ∷ xs) p = (p.0, each_take n xs p.1)

  pub each_drop : (n : ℕ) (xs : List A) → Each P xs → Each P (drop n xs)
  each_drop zero xs p = p
  each_drop (suc n) [] p = tt
  each_drop (suc n) (x ∷ xs) p = each_drop n xs p.1

  pub each_filter : (test : A → Bool) (xs : List A) → Each P xs → Each P (filter test xs)
  each_filter test [] p = tt
  each_filter test (x ∷ xs) p = by (test x) p.0 (each_filter test xs p.1)
    where
      by : (b : Bool) → P x → Each P (filter test xs) → Each P (cond b (x ∷ filter test xs) (filter test xs))
      by true here rest = (here, rest)
      by false here rest = rest

module _ {A : Type 0} (R : A → A → Type 0) where
  -- each of the first list and each of the second
  abbrev pub Across : List A → List A → Type 0
  Across xs ys = Each (λ x. Each (R x) ys) xs

  pub across : (P Q : A → Type 0) → ((x y : A) → P x → Q y → R x y) → (xs ys : List A) → Each P xs → Each Q ys → Across xs ys
  across P Q h xs ys p q = each_weaker P (λ x. Each (R x) ys) (λ x px. each_weaker Q (R x) (λ y qy. h x y px qy) ys q) xs p

  pub two_across : (xs ys : List A) → EachTwo R xs → EachTwo R ys → Across xs ys → EachTwo R (xs ++ ys)
  two_across [] ys p q r = q
  two_across (x ∷ xs) ys p q r = (each_append (R x) xs ys p.0 r.0, two_across xs ys p.1 q r.1)

  -- by what holds of each of the first list and of each of the second
  pub two_append : (P Q : A → Type 0) → ((x y : A) → P x → Q y → R x y) → (xs ys : List A) → Each P xs → EachTwo R xs → Each Q ys → EachTwo R ys → EachTwo R (xs ++ ys)
  two_append P Q h xs ys p two q more = two_across xs ys two more (across P Q h xs ys p q)

  pub two_weaker : (S : A → A → Type 0) → ((x y : A) → R x y → S x y) → (xs : List A) → EachTwo R xs → EachTwo S xs
  two_weaker S h [] p = tt
  two_weaker S h (x ∷ xs) p = (each_weaker (R x) (S x) (h x) xs p.0, two_weaker S h xs p.1)

  pub two_both : (S : A → A → Type 0) (xs : List A) → EachTwo R xs → EachTwo S xs → EachTwo (λ x y. R x y × S x y) xs
  two_both S [] p q = tt
  two_both S (x ∷ xs) p q = (each_both (R x) (S x) xs p.0 q.0, two_both S xs p.1 q.1)

  pub two_map : {B : Type 0} (f : B → A) (xs : List B) → EachTwo (λ x y. R (f x) (f y)) xs → EachTwo R (map f xs)
  two_map f [] p = tt
  two_map f (x ∷ xs) p = (each_map (R (f x)) f xs p.0, two_map f xs p.1)

  pub two_unmap : {B : Type 0} (f : B → A) (xs : List B) → EachTwo R (map f xs) → EachTwo (λ x y. R (f x) (f y)) xs
  two_unmap f [] p = tt
  two_unmap f (x ∷ xs) p = (each_unmap (R (f x)) f xs p.0, two_unmap f xs p.1)

  pub two_take : (n : ℕ) (xs : List A) → EachTwo R xs → EachTwo R (take n xs)
  two_take zero xs p = tt
  two_take (suc n) [] p = tt
  two_take (suc n) (x ∷ xs) p = (each_take (R x) n xs p.0, two_take n xs p.1)

  pub two_drop : (n : ℕ) (xs : List A) → EachTwo R xs → EachTwo R (drop n xs)
  two_drop zero xs p = p
  two_drop (suc n) [] p = tt
  two_drop (suc n) (x ∷ xs) p = two_drop n xs p.1

  -- of each of the first elements and each further one
  pub two_split : (n : ℕ) (xs : List A) → EachTwo R xs → Each (λ y. Each (λ x. R x y) (take n xs)) (drop n xs)
  two_split zero xs p = each_by (λ y. Unit {0}) (λ y. tt) xs
  two_split (suc n) [] p = tt
  two_split (suc n) (x ∷ xs) p = each_both (R x) (λ y. Each (λ x. R x y) (take n xs)) (drop n xs) (each_drop (R x) n xs p.0) (two_split n xs p.1)

  pub two_filter : (test : A → Bool) (xs : List A) → EachTwo R xs → EachTwo R (filter test xs)
  two_filter test [] p = tt
  two_filter test (x ∷ xs) p = by (test x) (each_filter (R x) test xs p.0) (two_filter test xs p.1)
    where
      by : (b : Bool) → Each (R x) (filter test xs) → EachTwo R (filter test xs) → EachTwo R (cond b (x ∷ filter test xs) (filter test xs))
      by true here rest = (here, rest)
      by false here rest = rest

  pub pairs_from_two : (xs : List A) → EachTwo R xs → AllPairs R xs
  pairs_from_two [] p = λ i j d h l. absurd (omega arith)
  pairs_from_two (x ∷ xs) p = AllPairs-cons R x xs (All-from_recursion (R x) xs p.0) (pairs_from_two xs p.1)

  pub two_from_pairs : (xs : List A) → AllPairs R xs → EachTwo R xs
  two_from_pairs [] p = tt
  two_from_pairs (x ∷ xs) p = (
    recursion_from_All (R x) xs (λ k d h. p 0 (suc k) d (omega arith) (omega (arith, h))),
    two_from_pairs xs (λ i j d h l. p (suc i) (suc j) d (omega (arith, h)) (omega (arith, l))),
  )

-- lists that elements give, one after another
pub each_flat : {A B : Type 0} (F : A → List B) (P : B → Type 0) (Q : A → Type 0) → ((x : A) → Q x → Each P (F x)) → (xs : List A) → Each Q xs → Each P (flat_map F xs)
each_flat F P Q h [] q = tt
each_flat F P Q h (x ∷ xs) q = each_append P (F x) (flat_map F xs) (h x q.0) (each_flat F P Q h xs q.1)

-- the numbers of elements
pub numbered : {A : Type 0} (all rest : List A) (n : ℕ) → ((k : ℕ) → slice_get rest k ≡ slice_get all (n + k)) → Each (λ p. slice_get all p.0 ≡ Some p.1) (enumerate_from n rest)
numbered all [] n h = tt
numbered all (x ∷ xs) n h =
    let first : n + 0 ≡ n = omega arith in
    (sym (h 0 ∙ ap (slice_get all) first), numbered all xs (n + 1) (λ k. let next : n + suc k ≡ n + 1 + k = omega arith in h (suc k) ∙ ap (slice_get all) next))

pub each_numbered : {A : Type 0} (P : A → Type 0) (n : ℕ) (xs : List A) → Each P xs → Each (λ p. P p.1) (enumerate_from n xs)
each_numbered P n [] p = tt
each_numbered P n (x ∷ xs) p = (p.0, each_numbered P (n + 1) xs p.1)

-- numbers that rise
pub rising_from_two : (xs : List ℕ) → EachTwo (λ a b. a < b) xs → IsStrictlyIncreasing xs
rising_from_two xs p = λ k h. pairs_from_two (λ a b. a < b) xs p k (k + 1) 0 (omega arith) h
