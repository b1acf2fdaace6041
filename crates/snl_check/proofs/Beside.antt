-- Lists by their elements in order: two lists side by side, and what one more element brings.
use Rattle.std.proofs.Common.{◌≡◌, ℕ, zero, suc, ◌+◌, List, [], ◌∷◌, ◌++◌, drop, map, take, slice_get, Option, Some, None, refl, ap, ◌∙◌, arith}
use Rattle.std.specs.List.{cons_option, enumerate_from, filter_map, zip}

-- a further pair
pub zip_more : {A B : Type 0} (xs : List A) (ys : List B) (n : ℕ) (x : A) (y : B) → slice_get xs n ≡ Some x → slice_get ys n ≡ Some y →
    zip (drop n xs) (drop n ys) ≡ (x, y) ∷ zip (drop (n + 1) xs) (drop (n + 1) ys)
zip_more [] ys n x y a b = absurd cc
zip_more (u ∷ xs) [] n x y a b = absurd cc
zip_more (u ∷ xs) (v ∷ ys) zero x y a b =
    let left : u ≡ x = cc in
    let right : v ≡ y = cc in
    ap (λ k. (k, v) ∷ zip xs ys) left ∙ ap (λ k. (x, k) ∷ zip xs ys) right
zip_more (u ∷ xs) (v ∷ ys) (suc n) x y a b =
    let same : suc (n + 1) ≡ suc n + 1 = omega arith in
    zip_more xs ys n x y a b ∙ ap (λ k. (x, y) ∷ zip (drop k (u ∷ xs)) (drop k (v ∷ ys))) same

drop_nil : {A : Type 0} (n : ℕ) → drop {A = A} n [] ≡ []
drop_nil zero = refl
drop_nil (suc n) = refl

no_second : {A B : Type 0} (xs : List A) → zip {K = A} {X = B} xs [] ≡ []
no_second [] = refl
no_second (x ∷ xs) = refl

-- no pair is left where the second list has ended
pub zip_none : {A B : Type 0} (xs : List A) (ys : List B) (n : ℕ) → slice_get ys n ≡ None → zip (drop n xs) (drop n ys) ≡ []
zip_none [] [] n h = ap (λ l. zip l (drop n [])) (drop_nil n)
zip_none (x ∷ xs) [] zero h = refl
zip_none (x ∷ xs) [] (suc n) h = ap (zip (drop n xs)) (drop_nil (suc n)) ∙ no_second (drop n xs)
zip_none [] (y ∷ ys) n h = ap (λ l. zip l (drop n (y ∷ ys))) (drop_nil n)
zip_none (x ∷ xs) (y ∷ ys) zero h = absurd cc
zip_none (x ∷ xs) (y ∷ ys) (suc n) h = zip_none xs ys n h

-- nor from there on
pub zip_none_more : {A B : Type 0} (xs : List A) (ys : List B) (n : ℕ) → slice_get ys n ≡ None → zip (drop (n + 1) xs) (drop (n + 1) ys) ≡ []
zip_none_more [] [] n h = ap (λ l. zip l (drop (n + 1) [])) (drop_nil (n + 1))
zip_none_more (x ∷ xs) [] n h = ap (zip (drop (n + 1) (x ∷ xs))) (drop_nil (n + 1)) ∙ no_second (drop (n + 1) (x ∷ xs))
zip_none_more [] (y ∷ ys) n h = ap (λ l. zip l (drop (n + 1) (y ∷ ys))) (drop_nil (n + 1))
zip_none_more (x ∷ xs) (y ∷ ys) zero h = absurd cc
zip_none_more (x ∷ xs) (y ∷ ys) (suc n) h =
    let same : suc n + 1 ≡ suc (n + 1) = omega arith in
    ap (λ k. zip (drop k (x ∷ xs)) (drop k (y ∷ ys))) same ∙ zip_none_more xs ys n h

-- numbered elements, and one more
pub enumerated_more : {A B : Type 0} (f : ℕ × A → B) (from : ℕ) (xs : List A) (n : ℕ) (x : A) → slice_get xs n ≡ Some x →
    map f (enumerate_from from (take (n + 1) xs)) ≡ map f (enumerate_from from (take n xs)) ++ f (from + n, x) ∷ []
enumerated_more f from [] n x h = absurd cc
enumerated_more f from (y ∷ xs) zero x h =
    let same : y ≡ x = cc in
    let here : from ≡ from + 0 = omega arith in
    ap (λ z. f (from, z) ∷ []) same ∙ ap (λ k. f (k, x) ∷ []) here
enumerated_more f from (y ∷ xs) (suc n) x h =
    let more : suc n + 1 ≡ suc (n + 1) = omega arith in
    let here : from + 1 + n ≡ from + suc n = omega arith in
    ap (λ k. map f (enumerate_from from (take k (y ∷ xs)))) more
    ∙ ap (λ l. f (from, y) ∷ l) (enumerated_more f (from + 1) xs n x h)
    ∙ ap (λ k. f (from, y) ∷ map f (enumerate_from (from + 1) (take n xs)) ++ f (k, x) ∷ []) here

-- the elements of a list that are kept, from a number on
pub kept_more : {A B : Type 0} (f : A → Option B) (xs : List A) (n : ℕ) (x : A) → slice_get xs n ≡ Some x →
    filter_map f (drop n xs) ≡ cons_option (f x) (filter_map f (drop (n + 1) xs))
kept_more f [] n x h = absurd cc
kept_more f (y ∷ xs) zero x h = let same : y ≡ x = cc in ap (λ z. cons_option (f z) (filter_map f xs)) same
kept_more f (y ∷ xs) (suc n) x h =
    let more : suc (n + 1) ≡ suc n + 1 = omega arith in
    kept_more f xs n x h ∙ ap (λ k. cons_option (f x) (filter_map f (drop k (y ∷ xs)))) more

-- and mapped, up to one
pub mapped_more : {A B : Type 0} (f : A → B) (xs : List A) (n : ℕ) (x : A) → slice_get xs n ≡ Some x → map f (take (n + 1) xs) ≡ map f (take n xs) ++ f x ∷ []
mapped_more f [] n x h = absurd cc
mapped_more f (y ∷ xs) zero x h = let same : y ≡ x = cc in ap (λ z. f z ∷ []) same
mapped_more f (y ∷ xs) (suc n) x h =
    let more : suc n + 1 ≡ suc (n + 1) = omega arith in
    ap (λ k. map f (take k (y ∷ xs))) more ∙ ap (λ l. f y ∷ l) (mapped_more f xs n x h)
