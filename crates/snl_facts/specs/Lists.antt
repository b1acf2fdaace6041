-- Parts of lists: what is left from a place on, and what two lists have in common.
use Rattle.std.proofs.Common.{◌≡◌, ℕ, zero, suc, ◌+◌, ◌-◌, ◌<◌, ◌≤◌, min, List, [], ◌∷◌, ◌++◌, length, take, drop, get_or, slice_get, Some, sym, ap, refl, ◌∙◌, arith, append-nil, append_assoc, drop_of_length-le, length-drop, length-append}
use Rattle.std.specs.Prelude.{slice_index}
use Rattle.std.proofs.lemmas.List.{drop-drop, drop-take, drop_more, length-take, take-append-drop, take-take}

-- ---- what is left from a place on

-- the element at a place, and the rest
pub drop_here : {A : Type 0} (xs : List A) (i : ℕ) (x : A) → i < length xs → x ≡ get_or xs i x → drop i xs ≡ x ∷ drop (i + 1) xs
drop_here xs i x within at = drop_more xs i x within ∙ ap (λ y. y ∷ drop (i + 1) xs) (sym at)

pub drop_got : {A : Type 0} (xs : List A) (i : ℕ) (x : A) → slice_get xs i ≡ Some x → drop i xs ≡ x ∷ drop (suc i) xs
drop_got [] i x h = absurd cc
drop_got (y ∷ ys) zero x h = let same : y ≡ x = cc in ap (λ z. z ∷ ys) same
drop_got (y ∷ ys) (suc i) x h = drop_got ys i x h

-- the elements before a place, the one there, and those after it
pub put_back : {A : Type 0} (xs : List A) (i : ℕ) (x : A) → slice_get xs i ≡ Some x → xs ≡ take i xs ++ (x ∷ drop (i + 1) xs)
put_back {A = A} xs i x h =
    let next : suc i ≡ i + 1 = omega arith in
    sym (take-append-drop i xs) ∙ ap (λ (l : List A). take i xs ++ l) (drop_got xs i x h ∙ ap (λ (n : ℕ). x ∷ drop n xs) next)

-- some elements are left
pub some_left : {A : Type 0} (xs : List A) (from : ℕ) → from < length xs → 0 < length (drop from xs)
some_left xs from h = simp length-drop (omega arith)

pub drop_further : {A : Type 0} (xs : List A) (i j : ℕ) → i < j → drop (j - i) (drop i xs) ≡ drop j xs
drop_further xs i j l = let whole : i + (j - i) ≡ j = omega (arith, l) in drop-drop (j - i) i xs ∙ ap (λ n. drop n xs) whole

pub take_drop : (i n : ℕ) (xs : List ℕ) → i < length xs → take (suc n) (drop i xs) ≡ slice_index xs i ∷ take n (drop (suc i) xs)
take_drop i n [] lt = absurd (omega (arith, lt))
take_drop zero n (x ∷ xs) lt = refl
take_drop (suc i) n (x ∷ xs) lt = take_drop i n xs (omega (arith, lt))

-- ---- lists after lists

pub length_more : {A : Type 0} (xs : List A) (x : A) → length (xs ++ x ∷ []) ≡ suc (length xs)
length_more xs x = omega (arith, length-append xs (x ∷ []))

-- a list, by a front of it
pub by_front : {A : Type 0} (n : ℕ) (xs more : List A) → xs ++ more ≡ take n xs ++ (drop n xs ++ more)
by_front {A} n xs more = ap (λ (l : List A). l ++ more) (sym (take-append-drop n xs)) ∙ append_assoc (take n xs) (drop n xs) more

-- a loop that adds to a list what the rest gives is at its end
pub at_end : {A B : Type 0} (gives : List A → List B) → gives [] ≡ [] → (xs : List A) (i : ℕ) (ys all : List B) → length xs ≤ i → ys ++ gives (drop i xs) ≡ all → ys ≡ all
at_end gives none xs i ys all past was = sym (append-nil ys) ∙ ap (λ l. ys ++ l) (sym (ap gives (drop_of_length-le xs past) ∙ none)) ∙ was

-- ---- two lists that agree before a place

-- they agree on any part before it
pub part_agrees : {A : Type 0} (old new : List A) (place from m : ℕ) → take place old ≡ take place new → from + m ≤ place → take m (drop from old) ≡ take m (drop from new)
part_agrees old new place from m h le =
    let one : take (from + m) old ≡ take (from + m) new = sym (take-take (from + m) place old le) ∙ (ap (take (from + m)) h ∙ take-take (from + m) place new le) in
    sym (drop-take from m old) ∙ (ap (drop from) one ∙ drop-take from m new)

-- what is inside one is inside the other
pub also_inside : {A : Type 0} (old new : List A) (place from : ℕ) → take place old ≡ take place new → from < place → from < length old → from < length new
also_inside old new place from h lt in_old =
    let e : min place (length old) ≡ min place (length new) = sym (length-take place old) ∙ (ap length h ∙ length-take place new) in
    omega arith
