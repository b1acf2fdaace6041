-- How many elements of a list pass a test, by recursion.
use Rattle.std.proofs.Common.{◌≡◌, ℕ, ◌+◌, Bool, true, false, ◌&&◌, cond, List, [], ◌∷◌, ◌++◌, map, filter, refl, sym, ap, ◌∙◌, arith}
use Rattle.std.specs.Prelude.{count_by, if◌then◌else◌}
use Rattle.std.specs.List.{AllByRecursion as Each}
use Rattle.std.proofs.lemmas.List.Sums.{sum_by-cons}
use Rattle.snl_kept.specs.declared.found.findings.Finding.{Finding}
use Rattle.snl_kept.specs.Order.{goes_before, in_order, put_in_order}
use Rattle.std.proofs.Math.Bool.{and-false, and-true}
use Rattle.snl_kept.specs.OrderLaws.{each_put}

abbrev pub one_if : Bool → ℕ
one_if b = if b then 1 else 0

abbrev pub count : {A : Type 0} → (A → Bool) → List A → ℕ
count test [] = 0
count test (x ∷ xs) = one_if (test x) + count test xs

pub counted : {A : Type 0} (test : A → Bool) (xs : List A) → count_by test xs ≡ count test xs
counted test [] = refl
counted test (x ∷ xs) = sum_by-cons (λ y. cond (test y) 1 0) x xs ∙ ap (λ n. one_if (test x) + n) (counted test xs)

pub count-append : {A : Type 0} (test : A → Bool) (xs ys : List A) → count test (xs ++ ys) ≡ count test xs + count test ys
count-append test [] ys = omega arith
count-append test (x ∷ xs) ys = let rest = count-append test xs ys in omega (arith, rest)

pub count-map : {A B : Type 0} (test : B → Bool) (f : A → B) (xs : List A) → count test (map f xs) ≡ count (λ x. test (f x)) xs
count-map test f [] = refl
count-map test f (x ∷ xs) = ap (λ n. one_if (test (f x)) + n) (count-map test f xs)

pub count_none : {A : Type 0} (test : A → Bool) (xs : List A) → Each (λ x. test x ≡ false) xs → count test xs ≡ 0
count_none test [] h = refl
count_none test (x ∷ xs) h = rw (h.0, count_none test xs h.1) refl

pub count_same : {A : Type 0} (p q : A → Bool) → ((x : A) → p x ≡ q x) → (xs : List A) → count p xs ≡ count q xs
count_same p q h [] = refl
count_same p q h (x ∷ xs) = ap (λ b. one_if b + count p xs) (h x) ∙ ap (λ n. one_if (q x) + n) (count_same p q h xs)

-- What one test keeps is counted by both.
pub count-filter : {A : Type 0} (test kept : A → Bool) (xs : List A) → count test (filter kept xs) ≡ count (λ x. test x && kept x) xs
count-filter test kept [] = refl
count-filter test kept (x ∷ xs) = by (kept x) (count-filter test kept xs)
  where
    by : (b : Bool) → count test (filter kept xs) ≡ count (λ y. test y && kept y) xs
        → count test (cond b (x ∷ filter kept xs) (filter kept xs)) ≡ one_if (test x && b) + count (λ y. test y && kept y) xs
    by true h = ap (λ t. one_if t + count test (filter kept xs)) (sym (and-true (test x))) ∙ ap (λ n. one_if (test x && true) + n) h
    by false h = let none : one_if (test x && false) ≡ 0 = ap one_if (and-false (test x)) in omega (arith, h, none)

-- Order changes no count.
count_put : (test : Finding → Bool) (x : Finding) (ys : List Finding) → count test (put_in_order x ys) ≡ one_if (test x) + count test ys
count_put test x [] = refl
count_put test x (y ∷ ys) = by (goes_before y x) (count_put test x ys)
  where
    by : (b : Bool) → count test (put_in_order x ys) ≡ one_if (test x) + count test ys
        → count test (if b then y ∷ put_in_order x ys else x ∷ y ∷ ys) ≡ one_if (test x) + (one_if (test y) + count test ys)
    by true h = omega (arith, h)
    by false h = refl

pub count_ordered : (test : Finding → Bool) (xs : List Finding) → count test (in_order xs) ≡ count test xs
count_ordered test [] = refl
count_ordered test (x ∷ xs) = count_put test x (in_order xs) ∙ ap (λ n. one_if (test x) + n) (count_ordered test xs)
