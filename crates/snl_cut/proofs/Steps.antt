-- How walks along the members join.
use Rattle.std.proofs.Common.{◌≡◌, ℕ, ◌+◌, ◌<◌, List, [], ◌∷◌, ◌++◌, length, drop, refl, sym, ap, ◌∙◌, subst, arith, suc, length-append}
use Rattle.snl_cut.specs.Cut.{Walks, notes_along}

-- A walk and one from where it ends.
pub walks_on : {X : Type 0} (first : List X → ℕ) (units : List X) (from : ℕ) (xs : List ℕ) (mid : ℕ) (ys : List ℕ) (to : ℕ)
    → Walks first units from xs mid → Walks first units mid ys to → Walks first units from (xs ++ ys) to
walks_on {X} first units from [] mid ys to h k = subst (λ (p : ℕ). Walks first units p ys to) (sym h) k
walks_on {X} first units from (e ∷ es) mid ys to h k = (h.0, h.1, walks_on first units e es mid ys to h.2 k)

-- A walk and the one member that is where it ends.
pub walks_push : {X : Type 0} (first : List X → ℕ) (units : List X) (from : ℕ) (xs : List ℕ) (at next : ℕ)
    → Walks first units from xs at → at < length units → next ≡ at + first (drop at units)
    → Walks first units from (xs ++ next ∷ []) next
walks_push first units from xs at next h lt e = walks_on first units from xs at (next ∷ []) next h (lt, e, refl)

pub length_push : (xs : List ℕ) (x : ℕ) → length (xs ++ x ∷ []) ≡ suc (length xs)
length_push xs x = simp length-append (omega arith)

along_push : {X N : Type 0} (first : List X → ℕ) (note : List X → N) (units : List X) (from : ℕ) (xs : List ℕ) (at next : ℕ)
    → Walks first units from xs at → notes_along note units from (xs ++ next ∷ []) ≡ notes_along note units from xs ++ note (drop at units) ∷ []
along_push {X} {N} first note units from [] at next h = ap (λ (p : ℕ). let l : List N = note (drop p units) ∷ [] in l) h
along_push {X} {N} first note units from (e ∷ xs) at next h = ap (λ (l : List N). note (drop from units) ∷ l) (along_push first note units e xs at next h.2)

-- The notes of a walk and of the one member that is where it ends.
pub notes_push : {X N : Type 0} (first : List X → ℕ) (note : List X → N) (units : List X) (from : ℕ) (xs : List ℕ) (at next : ℕ) (notes : List N) (n : N)
    → Walks first units from xs at → notes ≡ notes_along note units from xs → n ≡ note (drop at units) → notes ++ n ∷ [] ≡ notes_along note units from (xs ++ next ∷ [])
notes_push {X} {N} first note units from xs at next notes n h are is =
    ap (λ (l : List N). l ++ n ∷ []) are ∙ ap (λ (x : N). notes_along note units from xs ++ x ∷ []) is ∙ sym (along_push first note units from xs at next h)
