-- The first place at which a test passes: in a list by its first element, with one more element,
-- and in numbers that rise.
use Rattle.std.proofs.Common.{◌≡◌, ℕ, suc, ◌+◌, ◌<◌, ◌≤◌, Bool, true, false, ◌||◌, not, cond, ltb, nat_eq, nat_lt, List, [], ◌∷◌, ◌++◌, length, map, get_or, Option, None, Some, is_some, Result, Ok, Err, refl, sym, ap, ◌∙◌, arith, inl, inr}
use Rattle.std.specs.List.{AllPairs, list_any, position, position_or_len}
use Rattle.std.specs.List.Sorted.{IsBinarySearchResult, IsStrictlyIncreasing}
use Rattle.std.specs.Option.{option_map, option_or}
use Rattle.std.specs.Ordering.{nat_cmp}
use Rattle.std.specs.Result.{MatchResult}
use Rattle.std.proofs.lemmas.Bool.{cases_lt, eq-eqb, le-ltb, lt-ltb, ne_eqb}
use Rattle.std.proofs.lemmas.Bool.Decides.{nat_tests}
use Rattle.std.proofs.lemmas.List.Kept.{AllPairs-from_increasing}
use Rattle.std.proofs.lemmas.List.Sorted.{searched}
use Rattle.std.proofs.lemmas.List.Sums.{position_or_len_is}
use Rattle.snl_facts.specs.Numbers.{lt_suc}

-- ---- a place among so many, if it is there

pub place_found : (a n i : ℕ) → cond (ltb a n) (Some a) None ≡ Some i → (a ≡ i) × (i < n)
place_found a n i h = grind (arith, nat_tests)

pub place_missed : (a n : ℕ) → cond (ltb a n) (Some a) None ≡ None → n ≤ a
place_missed a n h = grind (arith, nat_tests)

pub place_at : (a n : ℕ) → a < n → cond (ltb a n) (Some a) None ≡ Some a
place_at a n h = grind (arith, nat_tests)

-- ---- the first place

pub position_cons : {A : Type 0} (p : A → Bool) (x : A) (xs : List A) → position p (x ∷ xs) ≡ cond (p x) (Some 0) (option_map suc (position p xs))
position_cons p x xs = by (p x)
  where
    n : ℕ
    n = position_or_len p xs

    later : (b : Bool) → cond b (Some (1 + n)) None ≡ option_map suc (cond b (Some n) None)
    later true = ap Some (omega arith)
    later false = refl

    by : (b : Bool) → cond (nat_lt (cond (not b) (1 + n) 0) (suc (length xs))) (Some (cond (not b) (1 + n) 0)) None ≡ cond b (Some 0) (option_map suc (position p xs))
    by true = ap (λ c. cond c (Some 0) None) (lt-ltb 0 (suc (length xs)) (omega arith))
    by false = ap (λ c. cond c (Some (1 + n)) None) (lt_suc n (length xs)) ∙ later (nat_lt n (length xs))

-- a search with one more element
pub position_push : {A : Type 0} (p : A → Bool) (xs : List A) (x : A) → position p (xs ++ x ∷ []) ≡ option_or (position p xs) (cond (p x) (Some (length xs)) None)
position_push p [] x = position_cons p x [] ∙ by (p x)
  where
    by : (b : Bool) → cond {A = Option ℕ} b (Some 0) None ≡ option_or None (cond {A = Option ℕ} b (Some 0) None)
    by true = refl
    by false = refl
position_push p (y ∷ ys) x =
    position_cons p y (ys ++ x ∷ [])
    ∙ ap (λ o. cond (p y) (Some 0) (option_map suc o)) (position_push p ys x)
    ∙ by (p y) (position p ys) (p x)
    ∙ ap (λ o. option_or o (cond (p x) (Some (suc (length ys))) None)) (sym (position_cons p y ys))
  where
    by : (b : Bool) (o : Option ℕ) (c : Bool)
        → cond b (Some 0) (option_map suc (option_or o (cond c (Some (length ys)) None))) ≡ option_or (cond b (Some 0) (option_map suc o)) (cond c (Some (suc (length ys))) None)
    by true o c = refl
    by false (Some k) c = refl
    by false None true = refl
    by false None false = refl

pub any_position : {A : Type 0} (p : A → Bool) (xs : List A) → list_any p xs ≡ is_some (position p xs)
any_position p [] = refl
any_position p (x ∷ xs) = by (p x) (position p xs) (any_position p xs) ∙ ap is_some (sym (position_cons p x xs))
  where
    by : (b : Bool) (o : Option ℕ) → list_any p xs ≡ is_some o → (b || list_any p xs) ≡ is_some (cond b (Some 0) (option_map suc o))
    by true o h = refl
    by false (Some k) h = h
    by false None h = h

pub position_map : {A B : Type 0} (p : B → Bool) (f : A → B) (xs : List A) → position (λ x. p (f x)) xs ≡ position p (map f xs)
position_map p f [] = refl
position_map p f (x ∷ xs) = position_cons (λ y. p (f y)) x xs ∙ ap (λ o. cond (p (f x)) (Some 0) (option_map suc o)) (position_map p f xs) ∙ sym (position_cons p (f x) (map f xs))

-- where a number is among numbers that rise
pub position_there : (xs : List ℕ) (x i : ℕ) → IsStrictlyIncreasing xs → i < length xs → get_or xs i 0 ≡ x → position (nat_eq x) xs ≡ Some i
position_there xs x i rises l e =
    let apart : AllPairs (λ a b. a < b) xs = AllPairs-from_increasing xs rises in
    let first : position_or_len (nat_eq x) xs ≡ i =
    position_or_len_is (nat_eq x) xs i 0 (omega (arith, l)) (λ k h. ne_eqb x (get_or xs k 0) (λ same. omega (arith, apart k i 0 h l, e, same)))
    (λ h. eq-eqb x (get_or xs i 0) (sym e)) in
    ap (λ n. cond (nat_lt n (length xs)) (Some n) None) first ∙ ap (λ b. cond b (Some i) None) (lt-ltb i (length xs) l)

pub position_nowhere : (xs : List ℕ) (x : ℕ) → ((k : ℕ) → k < length xs → x ≡ get_or xs k 0 → ⊥) → position (nat_eq x) xs ≡ None
position_nowhere xs x h =
    let all : position_or_len (nat_eq x) xs ≡ length xs =
    position_or_len_is (nat_eq x) xs (length xs) 0 (omega arith) (λ k l. ne_eqb x (get_or xs k 0) (h k l)) (λ l. absurd (omega (arith, l))) in
    ap (λ n. cond (nat_lt n (length xs)) (Some n) None) all ∙ ap (λ b. cond b (Some (length xs)) None) (le-ltb (length xs) (length xs) (omega arith))

rises_weakly : (xs : List ℕ) → IsStrictlyIncreasing xs → (i j : ℕ) → i ≤ j → j < length xs → get_or xs i 0 ≤ get_or xs j 0
rises_weakly xs rises i j l h =
    elim (cases_lt i j) [
      | inl less ↦ omega (arith, AllPairs-from_increasing xs rises i j 0 less h)
      | inr more ↦ let same : i ≡ j = omega (arith, l, more) in omega (arith, ap (λ k. get_or xs k 0) same)
    ]

-- what a binary search says of it
pub position_searched : (xs : List ℕ) (x : ℕ) (r : Result ℕ ℕ) → IsStrictlyIncreasing xs → IsBinarySearchResult (λ y. nat_cmp y x) xs r
    → MatchResult r (λ i. position (nat_eq x) xs ≡ Some i) (λ i. position (nat_eq x) xs ≡ None)
position_searched xs x (Ok i) rises h = let found = searched xs x (Ok i) h (rises_weakly xs rises) in position_there xs x i rises found.0 found.1
position_searched xs x (Err i) rises h =
    let none = searched xs x (Err i) h (rises_weakly xs rises) in
    position_nowhere xs x (λ k l e. elim (cases_lt k i) [
      | inl less ↦ omega (arith, none.1 k less, e)
      | inr more ↦ omega (arith, none.2 k more l, e)
    ])
