-- The meeting point of a recut is the one that is searched for among the ends.
use Rattle.std.proofs.Common.{◌≡◌, ℕ, zero, suc, ◌+◌, ◌-◌, ◌<◌, ◌≤◌, ◌⊎◌, inl, inr, Bool, true, ◌&&◌, cond, nat_eq, nat_le, List, [], ◌∷◌, ◌++◌, length, take, drop, refl, sym, ap, ◌∙◌, subst, arith, length-drop}
use Rattle.std.specs.List.{list_any}
use Rattle.snl_cut.specs.Cut.{IsFront, IsCut, IsBoundary, IsMeet, Walks, last_end, is_boundary, meet_from}
use Rattle.snl_cut.proofs.Steps.{walks_push}
use Rattle.snl_cut.proofs.Agreeing.{boundary_count, none_inside}
use Rattle.std.proofs.lemmas.Bool.{cases_Bool, or_left, or_right, or_cases, and_from, and_parts, eq-eqb, eqb-true, le-leb, leb-true, cases_lt}
use Rattle.snl_facts.specs.Lists.{some_left}

-- an end that is counted off is among the ends
among : (ends : List ℕ) (from k place : ℕ) → last_end from (take k ends) ≡ place → (from ≡ place) ⊎ (list_any (nat_eq place) ends ≡ true)
among ends from zero place h = inl h
among [] from (suc k) place h = inl h
among (e ∷ es) from (suc k) place h =
    elim (among es e k place h) [
      | inl here ↦ inr (or_left (nat_eq place e) (list_any (nat_eq place) es) (eq-eqb place e (sym here)))
      | inr later ↦ inr (or_right (nat_eq place e) (list_any (nat_eq place) es) later)
    ]

-- and one that is among them is the end of a walk
found : {X : Type 0} (first : List X → ℕ) (units : List X) (from : ℕ) (xs : List ℕ) (to place : ℕ) → Walks first units from xs to → list_any (nat_eq place) xs ≡ true
    → (ys : List ℕ) × Walks first units from ys place
found first units from [] to place w h = cc
found {X} first units from (x ∷ xs) to place w h =
    elim (or_cases (nat_eq place x) (list_any (nat_eq place) xs) h) [
      | inl here ↦ (x ∷ [], (w.0, w.1, sym (eqb-true place x here)))
      | inr later ↦ let rest : (ys : List ℕ) × Walks first units x ys place = found first units x xs to place w.2 later in (x ∷ rest.0, (w.0, w.1, rest.1))
    ]

inside : {X : Type 0} (first : List X → ℕ) → IsFront first → (units : List X) (from : ℕ) (xs : List ℕ) (to : ℕ) → from ≤ length units → Walks first units from xs to → to ≤ length units
inside first front units from [] to le w = omega (arith, w)
inside first front units from (x ∷ xs) to le w =
    inside first front units x xs to (omega (arith, w.1, (front (drop from units) (some_left units from w.0)).1, length-drop from units)) w.2

pub boundary_told : {X : Type 0} (first : List X → ℕ) (old : List X) (ends : List ℕ) (place : ℕ) → IsCut first old ends → IsBoundary first old place → is_boundary ends place ≡ true
boundary_told first old ends place cut is =
    let count = boundary_count first old 0 ends is.0 place cut is.1 in
    elim (among ends 0 count.0 place count.1) [
      | inl here ↦ or_left (nat_eq place 0) (list_any (nat_eq place) ends) (eq-eqb place 0 (sym here))
      | inr there ↦ or_right (nat_eq place 0) (list_any (nat_eq place) ends) there
    ]

pub told_boundary : {X : Type 0} (first : List X → ℕ) (old : List X) (ends : List ℕ) (place : ℕ) → IsCut first old ends → is_boundary ends place ≡ true → IsBoundary first old place
told_boundary first old ends place cut is =
    elim (or_cases (nat_eq place 0) (list_any (nat_eq place) ends) is) [
      | inl here ↦ ([], sym (eqb-true place 0 here))
      | inr there ↦ found first old 0 ends (length old) place cut there
    ]

-- so far the meeting point has not been passed
searched : {X : Type 0} (first : List X → ℕ) → IsFront first → (old units : List X) (ends : List ℕ) (b c meet at : ℕ) (xs es : List ℕ)
    → IsCut first old ends → IsMeet first old units b c meet → Walks first units 0 xs at → Walks first units at es (length units) → at ≤ meet
    → meet_from ends b c at es ≡ meet
searched first front old units ends b c meet at xs [] cut is before w le =
    let most : meet ≤ length units = inside first front units 0 is.in_new.0 meet (omega arith) is.in_new.1 in
    omega (arith, w)
searched {X} first front old units ends b c meet at xs (e ∷ es) cut is before w le =
    let there : Bool = is_boundary ends ((at - c) + b) in
    let test : Bool = nat_le c at && there in
    let rest : ℕ = meet_from ends b c e es in
    elim (cases_Bool test) [
      | inl passed ↦
          let both = and_parts (nat_le c at) there passed in
          let least : meet ≤ at = is.least at (leb-true c at both.0) (xs, before) (told_boundary first old ends ((at - c) + b) cut both.1) in
          ap (λ t. cond t at rest) passed ∙ omega arith
      | inr failed ↦
          let further : at < meet =
          elim (cases_lt at meet) [
            | inl less ↦ less
            | inr more ↦
                let same : meet ≡ at = omega arith in
                let after : c ≤ at = omega (arith, is.after) in
                let told : there ≡ true = boundary_told first old ends ((at - c) + b) cut (subst (λ (n : ℕ). IsBoundary first old ((n - c) + b)) same is.in_old) in
                let wrong : test ≡ true = and_from (nat_le c at) there (le-leb c at after) told in
                cc
          ] in
          let within : at + first (drop at units) ≤ meet = none_inside first units 0 xs is.in_new.0 at meet before is.in_new.1 further in
          ap (λ t. cond t at rest) failed ∙ searched first front old units ends b c meet e (xs ++ e ∷ []) es cut is (walks_push first units 0 xs at e before w.0 w.1) w.2 (omega (arith, w.1, within))
    ]

pub meet_is : {X : Type 0} (first : List X → ℕ) → IsFront first → (old units : List X) (ends news : List ℕ) (b c meet : ℕ)
    → IsCut first old ends → IsCut first units news → IsMeet first old units b c meet → meet_from ends b c 0 news ≡ meet
meet_is first front old units ends news b c meet cut cut_new is = searched first front old units ends b c meet 0 [] news cut is refl cut_new (omega arith)
