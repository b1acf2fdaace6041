-- What follows from the definitions of a cut: of ends that rise, of a walk along them, of the ends
-- below a place, of fresh ends and of members.
use Rattle.std.proofs.Common.{◌≡◌, ℕ, suc, zero, ◌+◌, ◌-◌, ◌<◌, ◌≤◌, inl, inr, List, [], ◌∷◌, ◌++◌, length, drop, take, get_or, refl, sym, ap, ◌∙◌, arith, length-drop}
use Rattle.std.proofs.lemmas.Bool.{cases_lt}
use Rattle.std.proofs.lemmas.Bool.Decides.{nat_tests}
use Rattle.snl_cut.specs.Cut.{IsEdit, Rises, Walks, ends_below, fresh, last_end, members}

-- ---- ends that rise

pub rises_last : (from : ℕ) (ends : List ℕ) → Rises from ends → from ≤ last_end from ends
rises_last from [] h = omega arith
rises_last from (e ∷ es) h = omega (arith, h.0, rises_last e es h.1)

pub rises_at : (from : ℕ) (ends : List ℕ) (k : ℕ) → Rises from ends → k < length ends → from < get_or ends k 0
rises_at from [] k h lt = absurd (omega arith)
rises_at from (e ∷ es) zero h lt = h.0
rises_at from (e ∷ es) (suc k) h lt = omega (arith, h.0, rises_at e es k h.1 (omega arith))

pub last_taken : (from : ℕ) (ends : List ℕ) (k : ℕ) → k < length ends → last_end from (take (suc k) ends) ≡ get_or ends k 0
last_taken from [] k lt = absurd (omega arith)
last_taken from (e ∷ es) zero lt = refl
last_taken from (e ∷ es) (suc k) lt = last_taken e es k (omega arith)

-- ---- ends below a place

pub below_yes : (e place : ℕ) (es : List ℕ) → e < place → ends_below place (e ∷ es) ≡ suc (ends_below place es)
below_yes e place es h = grind (arith, nat_tests)

pub below_no : (e place : ℕ) (es : List ℕ) → place ≤ e → ends_below place (e ∷ es) ≡ 0
below_no e place es h = grind (arith, nat_tests)

pub below_inside : (place : ℕ) (ends : List ℕ) → ends_below place ends ≤ length ends
below_inside place [] = omega arith
below_inside place (e ∷ es) =
    elim (cases_lt e place) [
      | inl h ↦ omega (arith, below_yes e place es h, below_inside place es)
      | inr h ↦ omega (arith, below_no e place es h)
    ]

-- No more ends are below a lesser place.
pub below_more : (low high : ℕ) (ends : List ℕ) → low ≤ high → ends_below low ends ≤ ends_below high ends
below_more low high [] le = omega arith
below_more low high (e ∷ es) le =
    elim (cases_lt e low) [
      | inl less ↦ omega (arith, below_yes e low es less, below_yes e high es (omega arith), below_more low high es le)
      | inr more ↦ omega (arith, below_no e low es more)
    ]

-- ---- walks along the ends

pub walks_le : {X : Type 0} (first : List X → ℕ) (units : List X) (from : ℕ) (xs : List ℕ) (to : ℕ) → Walks first units from xs to → from ≤ to
walks_le first units from [] to h = omega (arith, h)
walks_le first units from (e ∷ es) to h = omega (arith, h.1, walks_le first units e es to h.2)

pub walks_back : {X : Type 0} (first : List X → ℕ) (units : List X) (from : ℕ) (xs : List ℕ) (to k : ℕ) → Walks first units from xs to
    → Walks first units (last_end from (take k xs)) (drop k xs) to
walks_back first units from xs to zero h = h
walks_back first units from [] to (suc k) h = h
walks_back first units from (e ∷ es) to (suc k) h = walks_back first units e es to k h.2

-- ---- fresh ends

pub fresh_here : (start meet from e : ℕ) (es : List ℕ) → start ≤ e → from < meet → fresh start meet from (e ∷ es) ≡ e ∷ fresh start meet e es
fresh_here start meet from e es h k = grind (arith, nat_tests)

pub fresh_late : (start meet from e : ℕ) (es : List ℕ) → meet ≤ from → fresh start meet from (e ∷ es) ≡ fresh start meet e es
fresh_late start meet from e es h = grind (arith, nat_tests)

-- None of those that begin at the meeting point or after it is.
pub fresh_back : (start meet from : ℕ) (xs : List ℕ) → Rises from xs → meet ≤ from → fresh start meet from xs ≡ []
fresh_back start meet from [] r h = refl
fresh_back start meet from (e ∷ es) r h = fresh_late start meet from e es h ∙ fresh_back start meet e es r.1 (omega (arith, r.0))

-- ---- members, and the units of an edit

pub length_members : {X : Type 0} (units : List X) (from : ℕ) (ends : List ℕ) → length (members units from ends) ≡ length ends
length_members units from [] = refl
length_members units from (e ∷ es) = ap suc (length_members units e es)

pub members_joined : {X : Type 0} (units : List X) (from : ℕ) (xs ys : List ℕ)
    → members units from (xs ++ ys) ≡ members units from xs ++ members units (last_end from xs) ys
members_joined units from [] ys = refl
members_joined {X} units from (e ∷ es) ys = ap (λ (l : List (List X)). take (e - from) (drop from units) ∷ l) (members_joined units e es ys)

pub same_length : {X : Type 0} (old units : List X) (start b c : ℕ) → IsEdit old units start b c → (length units - c) + b ≡ length old
same_length old units start b c edit =
    let e : length old - b ≡ length units - c = sym (length-drop b old) ∙ (ap length edit.after ∙ length-drop c units) in
    omega arith
