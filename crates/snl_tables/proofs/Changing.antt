-- A list of which an element is changed, as a write; and rows that are marked one by one.
use Rattle.std.proofs.Common.{◌≡◌, ℕ, zero, suc, ◌<◌, ◌≤◌, List, [], ◌∷◌, length, get_or, take, slice_get, Some, None, refl, sym, ap, arith}
use Rattle.std.specs.List.{slice_set}
use Rattle.snl_tables.specs.declared.rows.StateMark.{StateMark}
use Rattle.snl_tables.specs.declared.rows.StateRow.{StateRow}
use Rattle.snl_tables.specs.Shifted.{changed_at, marked, with_own_mark}

pub changed_by_write : {X : Type 0} (f : X → X) (xs : List X) (n : ℕ) (d : X) → n < length xs → slice_set xs n (f (get_or xs n d)) ≡ changed_at f n xs
changed_by_write f [] n d l = absurd (omega (arith, l))
changed_by_write f (x ∷ xs) zero d l = refl
changed_by_write {X = X} f (x ∷ xs) (suc n) d l = ap (λ (ys : List X). x ∷ ys) (changed_by_write f xs n d (omega (arith, l)))

pub none_changed : {X : Type 0} (f : X → X) (xs : List X) (n : ℕ) → length xs ≤ n → xs ≡ changed_at f n xs
none_changed f [] n l = refl
none_changed f (x ∷ xs) zero l = absurd (omega (arith, l))
none_changed {X = X} f (x ∷ xs) (suc n) l = ap (λ (ys : List X). x ∷ ys) (none_changed f xs n (omega (arith, l)))

-- ---- marks, state by state

pub marked_here : (ms : List StateMark) (rows : List StateRow) (n : ℕ) (m : StateMark) (d : StateRow) → n < length rows → slice_get ms n ≡ Some m →
    slice_set (marked (take n ms) rows) n (with_own_mark m (get_or (marked (take n ms) rows) n d)) ≡ marked (take (suc n) ms) rows
marked_here ms [] n m d l at = absurd (omega (arith, l))
marked_here [] (row ∷ rows) n m d l at = absurd cc
marked_here (k ∷ ms) (row ∷ rows) zero m d l at = let same : k ≡ m = cc in ap (λ mark. with_own_mark mark row ∷ rows) (sym same)
marked_here (k ∷ ms) (row ∷ rows) (suc n) m d l at = ap (λ (l : List StateRow). with_own_mark k row ∷ l) (marked_here ms rows n m d (omega (arith, l)) at)

pub unmarked_here : (ms : List StateMark) (rows : List StateRow) (n : ℕ) → slice_get ms n ≡ None → marked (take n ms) rows ≡ marked (take (suc n) ms) rows
unmarked_here [] rows zero at = refl
unmarked_here [] rows (suc n) at = refl
unmarked_here (m ∷ ms) rows zero at = absurd cc
unmarked_here (m ∷ ms) [] (suc n) at = refl
unmarked_here (m ∷ ms) (row ∷ rows) (suc n) at = ap (λ (l : List StateRow). with_own_mark m row ∷ l) (unmarked_here ms rows n at)

pub marked_all : (ms : List StateMark) (rows : List StateRow) (n : ℕ) → length rows ≤ n → marked (take n ms) rows ≡ marked ms rows
marked_all [] rows zero l = refl
marked_all [] rows (suc n) l = refl
marked_all (m ∷ ms) [] zero l = refl
marked_all (m ∷ ms) [] (suc n) l = refl
marked_all (m ∷ ms) (row ∷ rows) zero l = absurd (omega (arith, l))
marked_all (m ∷ ms) (row ∷ rows) (suc n) l = ap (λ (l : List StateRow). with_own_mark m row ∷ l) (marked_all ms rows n (omega (arith, l)))
