-- There is one cut, and it is `ends_of`.
use Rattle.std.proofs.Common.{◌≡◌, ℕ, suc, zero, ◌+◌, ◌-◌, ◌<◌, ◌≤◌, inl, inr, List, [], ◌∷◌, length, drop, refl, sym, ◌∙◌, subst, arith, length-drop}
use Rattle.std.proofs.lemmas.Bool.Decides.{nat_tests}
use Rattle.snl_cut.specs.Cut.{IsFront, Walks, IsCut, ends_from, ends_of}
use Rattle.std.proofs.lemmas.Bool.{cases_lt}
use Rattle.snl_facts.specs.Lists.{some_left}

pub walks_only : {X : Type 0} (first : List X → ℕ) (units : List X) (from : ℕ) (xs ys : List ℕ)
    → Walks first units from xs (length units) → Walks first units from ys (length units) → xs ≡ ys
walks_only first units from [] [] h k = refl
walks_only first units from [] (y ∷ ys) h k = absurd (omega (arith, h, k.0))
walks_only first units from (x ∷ xs) [] h k = absurd (omega (arith, k, h.0))
walks_only {X} first units from (x ∷ xs) (y ∷ ys) h k =
    let same : y ≡ x = k.1 ∙ sym h.1 in
    let rest : xs ≡ ys = walks_only first units x xs ys h.2 (subst (λ (p : ℕ). Walks first units p ys (length units)) same k.2) in
    cc

pub cut_only : {X : Type 0} (first : List X → ℕ) (units : List X) (xs ys : List ℕ) → IsCut first units xs → IsCut first units ys → xs ≡ ys
cut_only first units xs ys h k = walks_only first units 0 xs ys h k

ends_more : {X : Type 0} (first : List X → ℕ) (units : List X) (from fuel : ℕ) → from < length units
    → ends_from first units from (suc fuel) ≡ (from + first (drop from units)) ∷ ends_from first units (from + first (drop from units)) fuel
ends_more first units from fuel h = grind (arith, nat_tests)

ends_none : {X : Type 0} (first : List X → ℕ) (units : List X) (from fuel : ℕ) → length units ≤ from → ends_from first units from (suc fuel) ≡ []
ends_none first units from fuel h = grind (arith, nat_tests)

pub walks_made : {X : Type 0} (first : List X → ℕ) → IsFront first → (units : List X) (from fuel : ℕ) → from ≤ length units → length units ≤ from + fuel
    → Walks first units from (ends_from first units from fuel) (length units)
walks_made first front units from zero inside enough = omega arith
walks_made {X} first front units from (suc fuel) inside enough =
    let P : List ℕ → Type 0 = λ (l : List ℕ). Walks first units from l (length units) in
    elim (cases_lt from (length units)) [
      | inl less ↦
          let some = front (drop from units) (some_left units from less) in
          let fits : first (drop from units) ≤ length units - from = omega (arith, some.1, length-drop from units) in
          subst P (sym (ends_more first units from fuel less))
          (less, refl, walks_made first front units (from + first (drop from units)) fuel (omega arith) (omega (arith, some.0)))
      | inr more ↦ let at_end : from ≡ length units = omega arith in subst P (sym (ends_none first units from fuel more)) at_end
    ]

pub cut_made : {X : Type 0} (first : List X → ℕ) → IsFront first → (units : List X) → IsCut first units (ends_of first units)
cut_made first front units = walks_made first front units 0 (length units) (omega arith) (omega arith)
