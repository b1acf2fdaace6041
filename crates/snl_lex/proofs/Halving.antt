-- How many items of a list in order come before a place, and which is the last of them.
use Rattle.std.proofs.Common.{◌≡◌, ℕ, zero, suc, ◌<◌, ◌≤◌, inl, inr, Bool, true, false, cond, nat_lt, List, [], ◌∷◌, length, take, get_or, count_by, filter, Option, Some, refl, sym, ap, ◌∙◌, arith}
use Rattle.std.specs.List.{AllByRecursion}
use Rattle.std.specs.List.Sorted.{IsNonDecreasingBy}
use Rattle.snl_lex.specs.Lines.{last_or}
use Rattle.std.proofs.lemmas.Bool.{cases_lt, lt-ltb, le-ltb}
use Rattle.snl_facts.specs.Counts.{count_cons, count_yes, count_no}
use Rattle.snl_facts.specs.Numbers.{bit_more}

none_counted : {X : Type 0} (p : X → Bool) (xs : List X) → ((k : ℕ) (d : X) → k < length xs → p (get_or xs k d) ≡ false) → count_by p xs ≡ 0
none_counted p [] h = refl
none_counted p (x ∷ xs) h = count_no p x xs (h 0 x (omega arith)) ∙ none_counted p xs (λ k d lt. h (suc k) d (omega (arith, lt)))

none_filtered : {X : Type 0} (p : X → Bool) (xs : List X) → ((k : ℕ) (d : X) → k < length xs → p (get_or xs k d) ≡ false) → filter p xs ≡ []
none_filtered p [] h = refl
none_filtered p (x ∷ xs) h =
    ap (λ (b : Bool). cond b (x ∷ filter p xs) (filter p xs)) (h 0 x (omega arith)) ∙ none_filtered p xs (λ k d lt. h (suc k) d (omega (arith, lt)))

-- Those before a place are the first ones.
pub filter_taken : {X : Type 0} (n : X → ℕ) (place : ℕ) (xs : List X) → IsNonDecreasingBy n xs → filter (λ x. nat_lt (n x) place) xs ≡ take (count_by (λ x. nat_lt (n x) place) xs) xs
filter_taken n place [] h = refl
filter_taken {X} n place (x ∷ xs) h =
    let p : X → Bool = λ (y : X). nat_lt (n y) place in
    let on : IsNonDecreasingBy n xs = λ i j d le lt. h (suc i) (suc j) d (omega (arith, le)) (omega (arith, lt)) in
    elim (cases_lt (n x) place) [
      | inl less ↦
          ap (λ (b : Bool). cond b (x ∷ filter p xs) (filter p xs)) (lt-ltb (n x) place less)
          ∙ ap (λ (l : List X). x ∷ l) (filter_taken n place xs on)
          ∙ ap (λ (c : ℕ). take c (x ∷ xs)) (sym (count_yes p x xs (lt-ltb (n x) place less)))
      | inr more ↦
          let none : (k : ℕ) (d : X) → k < length (x ∷ xs) → p (get_or (x ∷ xs) k d) ≡ false = λ k d lt. le-ltb (n (get_or (x ∷ xs) k d)) place (omega (arith, h 0 k d (omega arith) lt, more)) in
          none_filtered p (x ∷ xs) none ∙ ap (λ (c : ℕ). take c (x ∷ xs)) (sym (none_counted p (x ∷ xs) none))
    ]

pub last_taken : {X : Type 0} (found : Option X) (xs : List X) (k : ℕ) (d : X) → k < length xs → last_or found (take (suc k) xs) ≡ Some (get_or xs k d)
last_taken found [] k d lt = absurd (omega arith)
last_taken found (x ∷ xs) zero d lt = refl
last_taken found (x ∷ xs) (suc k) d lt = last_taken (Some x) xs k d (omega arith)

pub all_counted : {X : Type 0} (p : X → Bool) (xs : List X) → AllByRecursion (λ x. p x ≡ true) xs → count_by p xs ≡ length xs
all_counted p [] h = refl
all_counted p (x ∷ xs) h = count_yes p x xs h.0 ∙ ap suc (all_counted p xs h.1)

-- As many or more come before a place further on.
pub count_more : {X : Type 0} (n : X → ℕ) (a b : ℕ) (xs : List X) → a ≤ b → count_by (λ x. nat_lt (n x) a) xs ≤ count_by (λ x. nat_lt (n x) b) xs
count_more n a b [] le = omega arith
count_more n a b (x ∷ xs) le =
    omega (arith, bit_more a b (n x) le, count_more n a b xs le, count_cons (λ y. nat_lt (n y) a) x xs, count_cons (λ y. nat_lt (n y) b) x xs)
