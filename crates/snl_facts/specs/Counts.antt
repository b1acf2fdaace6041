-- How many elements of a list pass a test.
use Rattle.std.proofs.Common.{◌≡◌, ℕ, zero, suc, ◌+◌, ◌≤◌, Bool, true, false, ◌||◌, cond, nat_lt, List, [], ◌∷◌, ◌++◌, length, count_by, refl, sym, ap, ◌∙◌, arith}
use Rattle.std.specs.List.{AllByRecursion, list_any}
use Rattle.std.specs.List.Sorted.{IsPartitionPoint}
use Rattle.std.proofs.lemmas.Bool.{lt-ltb}
use Rattle.std.proofs.lemmas.List.Sums.{sum_by-append}

pub count_append : {A : Type 0} (p : A → Bool) (xs ys : List A) → count_by p (xs ++ ys) ≡ count_by p xs + count_by p ys
count_append p = sum_by-append (λ x. cond (p x) 1 0)

pub count_cons : {A : Type 0} (p : A → Bool) (x : A) (xs : List A) → count_by p (x ∷ xs) ≡ cond (p x) 1 0 + count_by p xs
count_cons p x xs = count_append p (x ∷ []) xs ∙ ap (λ (n : ℕ). n + count_by p xs) (omega arith)

pub count_yes : {A : Type 0} (p : A → Bool) (x : A) (xs : List A) → p x ≡ true → count_by p (x ∷ xs) ≡ suc (count_by p xs)
count_yes p x xs h = count_cons p x xs ∙ ap (λ (b : Bool). cond b 1 0 + count_by p xs) h ∙ omega arith

pub count_no : {A : Type 0} (p : A → Bool) (x : A) (xs : List A) → p x ≡ false → count_by p (x ∷ xs) ≡ count_by p xs
count_no p x xs h = count_cons p x xs ∙ ap (λ (b : Bool). cond b 1 0 + count_by p xs) h ∙ omega arith

pub no_counted : {A : Type 0} (p : A → Bool) (xs : List A) → AllByRecursion (λ x. p x ≡ false) xs → count_by p xs ≡ 0
no_counted p [] h = refl
no_counted p (x ∷ xs) h = count_no p x xs h.0 ∙ no_counted p xs h.1

-- The first elements pass and the others don't: so many pass.
pub count_at : {A : Type 0} (p : A → Bool) (xs : List A) (i : ℕ) → i ≤ length xs → IsPartitionPoint (λ y. p y ≡ true) (λ y. p y ≡ false) xs i → i ≡ count_by p xs
count_at p [] i le h = omega arith
count_at p (x ∷ xs) zero le h =
    count_at p xs zero (omega arith) ((λ k d low high. absurd (omega (arith, high))), (λ k d low high. h.1 (suc k) d (omega arith) (omega (arith, high))))
    ∙ sym (count_no p x xs (h.1 0 x (omega arith) (omega arith)))
count_at p (x ∷ xs) (suc i) le h =
    ap suc (count_at p xs i (omega arith) ((λ k d low high. h.0 (suc k) d (omega arith) (omega (arith, high))), (λ k d low high. h.1 (suc k) d (omega (arith, low)) (omega (arith, high)))))
    ∙ sym (count_yes p x xs (h.0 0 x (omega arith) (omega arith)))

-- Some pass, and none of those after them does: so many pass.
pub count_parts : {A : Type 0} (p : A → Bool) (xs ys : List A) → count_by p xs ≡ length xs → count_by p ys ≡ 0 → count_by p (xs ++ ys) ≡ length xs
count_parts p xs ys h k = omega (arith, count_append p xs ys, h, k)

pub any_counted : (p : ℕ → Bool) (xs : List ℕ) → list_any p xs ≡ nat_lt 0 (count_by p xs)
any_counted p [] = refl
any_counted p (x ∷ xs) =
    let rest : ℕ = count_by p xs in
    let again = any_counted p xs in
    let here : list_any p (x ∷ xs) ≡ nat_lt 0 (cond (p x) 1 0 + rest) =
    elim (p x) as (λ t. (t || list_any p xs) ≡ nat_lt 0 (cond t 1 0 + rest)) [
      | true ↦ sym (lt-ltb 0 (1 + rest) (omega arith))
      | false ↦ again ∙ ap (nat_lt 0) (omega arith)
    ] in
    here ∙ ap (nat_lt 0) (sym (count_cons p x xs))
