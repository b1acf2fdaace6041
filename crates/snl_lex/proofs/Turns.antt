-- Runs and closing pairs, counted in turn.
use Rattle.std.proofs.lemmas.List.{drop_all, drop_more}
use Rattle.std.proofs.Common.{◌≡◌, ℕ, suc, ◌+◌, ◌<◌, ◌≤◌, List, [], ◌∷◌, length, take, drop, get_or, Bool, true, false, ◌&&◌, cond, eqb, Option, Some, None, refl, ap, ◌∙◌, arith}
use Rattle.std.specs.Option.{option_map}
use Rattle.std.proofs.lemmas.Bool.Decides.{nat_tests}
use Rattle.snl_lex.specs.Runs.{run_by, begins, close_of}

pub by_on : (joins : List ℕ → ℕ → Bool) (before xs : List ℕ) (k : ℕ) → k < length xs → joins before (get_or xs k 0) ≡ true
    → run_by joins before (drop k xs) ≡ suc (run_by joins (get_or xs k 0 ∷ before) (drop (k + 1) xs))
by_on joins before xs k lt h =
    ap (run_by joins before) (drop_more xs k 0 lt) ∙ ap (λ (b : Bool). cond b (suc (run_by joins (get_or xs k 0 ∷ before) (drop (k + 1) xs))) 0) h

pub by_stop : (joins : List ℕ → ℕ → Bool) (before xs : List ℕ) (k : ℕ) → k < length xs → joins before (get_or xs k 0) ≡ false → run_by joins before (drop k xs) ≡ 0
by_stop joins before xs k lt h =
    ap (run_by joins before) (drop_more xs k 0 lt) ∙ ap (λ (b : Bool). cond b (suc (run_by joins (get_or xs k 0 ∷ before) (drop (k + 1) xs))) 0) h

pub by_end : (joins : List ℕ → ℕ → Bool) (before xs : List ℕ) (k : ℕ) → length xs ≤ k → run_by joins before (drop k xs) ≡ 0
by_end joins before xs k h = ap (run_by joins before) (drop_all k xs h)

-- So many bytes more.
abbrev pub shifted : ℕ → Option ℕ → Option ℕ
shifted k None = None
shifted k (Some n) = Some (k + n)

pub shift_more : (k : ℕ) (o : Option ℕ) → shifted k (option_map suc o) ≡ shifted (k + 1) o
shift_more k None = refl
shift_more k (Some n) = ap Some (omega arith)

begins_next : (b : ℕ) (xs : List ℕ) (k : ℕ) → k < length xs → begins b (drop k xs) ≡ eqb (get_or xs k 0) b
begins_next b xs k lt = ap (begins b) (drop_more xs k 0 lt)

pub close_on : (a b : ℕ) (xs : List ℕ) (k : ℕ) → k + 1 < length xs → (eqb (get_or xs k 0) a && eqb (get_or xs (k + 1) 0) b) ≡ false
    → close_of a b (drop k xs) ≡ option_map suc (close_of a b (drop (k + 1) xs))
close_on a b xs k lt h =
    ap (close_of a b) (drop_more xs k 0 (omega arith))
    ∙ ap (λ (c : Bool). cond c (Some 2) (option_map suc (close_of a b (drop (k + 1) xs))))
    (ap (λ (c : Bool). eqb (get_or xs k 0) a && c) (begins_next b xs (k + 1) lt) ∙ h)

none_left : (c : Bool) → let none : Option ℕ = None in cond (c && false) (Some 2) (option_map suc none) ≡ none
none_left true = refl
none_left false = refl

close_short : (a b : ℕ) (ys : List ℕ) → length ys ≤ 1 → close_of a b ys ≡ None
close_short a b [] h = refl
close_short a b (y ∷ []) h = none_left (eqb y a)
close_short a b (y ∷ z ∷ ys) h = absurd (omega arith)

pub close_end : (a b : ℕ) (xs : List ℕ) (k : ℕ) → length (drop k xs) ≤ 1 → close_of a b (drop k xs) ≡ None
close_end a b xs k h = close_short a b (drop k xs) h

-- Tests of two bytes.
pub first_differs : (x a y b : ℕ) → (x ≡ a → ⊥) → (eqb x a && eqb y b) ≡ false
first_differs x a y b h = grind (arith, nat_tests)

pub second_differs : (x a y b : ℕ) → (y ≡ b → ⊥) → (eqb x a && eqb y b) ≡ false
second_differs x a y b h = grind (arith, nat_tests)

pub take_one : (xs : List ℕ) → 0 < length xs → take 1 xs ≡ get_or xs 0 0 ∷ []
take_one [] h = absurd (omega arith)
take_one (x ∷ xs) h = refl

pub and_true : (b : Bool) → b ≡ (b && true)
and_true true = refl
and_true false = refl
