-- Elements of lists, by their numbers.
use Rattle.std.proofs.Common.{◌≡◌, ℕ, zero, suc, ◌⊎◌, inl, inr, false, List, [], ◌∷◌, ◌++◌, length, set, nat_eq, None, Some, refl, sym, ◌∙◌, arith, true≢false}
use Rattle.std.specs.Prelude.{slice_get}
use Rattle.std.proofs.lemmas.Bool.Decides.{nat_tests}

pub get_kept : {A : Type 0} (xs : List A) (x c : A) (r : ℕ) → slice_get xs r ≡ Some c → slice_get (xs ++ x ∷ []) r ≡ Some c
get_kept [] x c r h = cc
get_kept (y ∷ ys) x c zero h = h
get_kept (y ∷ ys) x c (suc r) h = get_kept ys x c r h

pub get_last : {A : Type 0} (xs : List A) (x : A) → slice_get (xs ++ x ∷ []) (length xs) ≡ Some x
get_last [] x = refl
get_last (y ∷ ys) x = get_last ys x

pub get_after : {A : Type 0} (xs : List A) (x : A) (r : ℕ) → slice_get xs r ≡ None → (slice_get (xs ++ x ∷ []) r ≡ None) ⊎ (slice_get (xs ++ x ∷ []) r ≡ Some x)
get_after [] x zero h = inr refl
get_after [] x (suc r) h = inl refl
get_after (y ∷ ys) x zero h = cc
get_after (y ∷ ys) x (suc r) h = get_after ys x r h

pub set_there : {A : Type 0} (xs : List A) (i : ℕ) (a c : A) → slice_get xs i ≡ Some c → slice_get (set xs i a) i ≡ Some a
set_there [] i a c h = cc
set_there (x ∷ xs) zero a c h = refl
set_there (x ∷ xs) (suc i) a c h = set_there xs i a c h

eq_suc : (i r : ℕ) → nat_eq (suc i) (suc r) ≡ nat_eq i r
eq_suc i r = grind (arith, nat_tests)

pub set_other : {A : Type 0} (xs : List A) (i r : ℕ) (a : A) → nat_eq i r ≡ false → slice_get (set xs i a) r ≡ slice_get xs r
set_other [] i r a h = refl
set_other (x ∷ xs) zero zero a h = absurd (true≢false h)
set_other (x ∷ xs) zero (suc r) a h = refl
set_other (x ∷ xs) (suc i) zero a h = refl
set_other (x ∷ xs) (suc i) (suc r) a h = set_other xs i r a (sym (eq_suc i r) ∙ h)
