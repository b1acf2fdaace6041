-- What an edit leaves of a cut.
use Rattle.std.proofs.Common.{◌≡◌, ℕ, suc, zero, ◌+◌, ◌-◌, ◌<◌, ◌≤◌, inl, inr, List, [], ◌∷◌, length, drop, take, refl, sym, ap, ◌∙◌, subst, arith, length-drop}
use Rattle.std.proofs.lemmas.List.{drop-drop, take_all}
use Rattle.snl_cut.specs.Cut.{IsFront, IsLocal, Walks, IsCut, IsBoundary, Rises, ends_below, last_end, moved, IsEdit}
use Rattle.snl_cut.proofs.Below.{below_last, below_next}
use Rattle.std.proofs.lemmas.Bool.{cases_lt}
use Rattle.snl_facts.specs.Lists.{some_left, part_agrees, also_inside}
use Rattle.snl_cut.specs.CutLaws.{walks_le, walks_back, same_length}

pub walks_rise : {X : Type 0} (first : List X → ℕ) → IsFront first → (units : List X) (from : ℕ) (xs : List ℕ) (to : ℕ) → Walks first units from xs to → Rises from xs
walks_rise first front units from [] to h = tt
walks_rise first front units from (e ∷ es) to h =
    (omega (arith, h.1, (front (drop from units) (some_left units from h.0)).0), walks_rise first front units e es to h.2)

pub walks_last : {X : Type 0} (first : List X → ℕ) (units : List X) (from : ℕ) (xs : List ℕ) (to : ℕ) → Walks first units from xs to → last_end from xs ≡ to
walks_last first units from [] to h = h
walks_last first units from (e ∷ es) to h = walks_last first units e es to h.2

-- The first members, and the others.
pub walks_front : {X : Type 0} (first : List X → ℕ) (units : List X) (from : ℕ) (xs : List ℕ) (to k : ℕ) → Walks first units from xs to
    → Walks first units from (take k xs) (last_end from (take k xs))
walks_front first units from xs to zero h = refl
walks_front first units from [] to (suc k) h = refl
walks_front first units from (e ∷ es) to (suc k) h = (h.0, h.1, walks_front first units e es to k h.2)

-- A boundary is the place where the first members of the cut end, so many of them.
pub boundary_count : {X : Type 0} (first : List X → ℕ) (units : List X) (from : ℕ) (xs ys : List ℕ) (place : ℕ)
    → Walks first units from xs (length units) → Walks first units from ys place → (k : ℕ) × (last_end from (take k xs) ≡ place)
boundary_count first units from xs [] place h w = (0, w)
boundary_count first units from [] (y ∷ ys) place h w = absurd (omega (arith, h, w.0))
boundary_count {X} first units from (x ∷ xs) (y ∷ ys) place h w =
    let same : y ≡ x = w.1 ∙ sym h.1 in
    let rest : (k : ℕ) × (last_end x (take k xs) ≡ place) = boundary_count first units x xs ys place h.2 (subst (λ (p : ℕ). Walks first units p ys place) same w.2) in
    (suc rest.0, rest.1)

-- No boundary is inside a member.
pub none_inside : {X : Type 0} (first : List X → ℕ) (units : List X) (from : ℕ) (xs ys : List ℕ) (at place : ℕ)
    → Walks first units from xs at → Walks first units from ys place → at < place → at + first (drop at units) ≤ place
none_inside first units from xs [] at place h w lt = absurd (omega (arith, w, walks_le first units from xs at h))
none_inside {X} first units from [] (y ∷ ys) at place h w lt =
    let member : from + first (drop from units) ≤ place = omega (arith, w.1, walks_le first units y ys place w.2) in
    subst (λ (p : ℕ). p + first (drop p units) ≤ place) h member
none_inside {X} first units from (x ∷ xs) (y ∷ ys) at place h w lt =
    let same : y ≡ x = w.1 ∙ sym h.1 in
    none_inside first units x xs ys at place h.2 (subst (λ (p : ℕ). Walks first units p ys place) same w.2) lt

-- Members that end before the edit are in both cuts: a front sees one unit past its answer, and no
-- further.
pub front_same : {X : Type 0} (first : List X → ℕ) → IsFront first → IsLocal first → (old units : List X) (a from : ℕ) (xs : List ℕ) (to : ℕ)
    → take a old ≡ take a units → to < a → Walks first old from xs to → Walks first units from xs to
front_same first front local old units a from [] to h lt w = w
front_same first front local old units a from (e ∷ es) to h lt w =
    let e_le : e ≤ to = walks_le first old e es to w.2 in
    let agree : take (first (drop from old) + 1) (drop from old) ≡ take (first (drop from old) + 1) (drop from units) = part_agrees old units a from (first (drop from old) + 1) h (omega (arith, w.1)) in
    let same : first (drop from units) ≡ first (drop from old) = local (drop from old) (drop from units) (some_left old from w.0) agree in
    (also_inside old units a from h (omega (arith, w.1)) w.0, w.1 ∙ ap (λ n. from + n) (sym same), front_same first front local old units a e es to h lt w.2)

-- The members before the edit are in the new cut.
pub front_walk : {X : Type 0} (first : List X → ℕ) → IsFront first → IsLocal first → (old units : List X) (ends : List ℕ) (start b c : ℕ)
    → IsEdit old units start b c → IsCut first old ends
    → Walks first units 0 (take (ends_below start ends) ends) (last_end 0 (take (ends_below start ends) ends))
front_walk {X} first front local old units ends start b c edit cut =
    let k : ℕ = ends_below start ends in
    elim (below_last start 0 ends) [
      | inl none ↦ subst (λ (n : ℕ). Walks first units 0 (take n ends) (last_end 0 (take n ends))) (sym none) refl
      | inr some ↦ front_same first front local old units start 0 (take k ends) (last_end 0 (take k ends)) edit.before some (walks_front first old 0 ends (length old) k cut)
    ]

rest_late : {X : Type 0} (first : List X → ℕ) (old : List X) (ends : List ℕ) (start p : ℕ) (rest : List ℕ) → drop (ends_below start ends) ends ≡ rest
    → Walks first old p rest (length old) → p < length old → start ≤ p + first (drop p old)
rest_late first old ends start p [] e w lt = absurd (omega (arith, w))
rest_late first old ends start p (x ∷ xs) e w lt = omega (arith, w.1, below_next start ends x xs e)

-- The first member that is made ends at or after the edit's start.
pub made_late : {X : Type 0} (first : List X → ℕ) → IsFront first → IsLocal first → (old units : List X) (ends : List ℕ) (start b c : ℕ)
    → IsEdit old units start b c → IsCut first old ends
    → (p : ℕ) → p ≡ last_end 0 (take (ends_below start ends) ends) → p < length units → start ≤ p + first (drop p units)
made_late {X} first front local old units ends start b c edit cut p is lt =
    elim (cases_lt (p + first (drop p units)) start) [
      | inl less ↦
          let in_old : p < length old = also_inside units old start p (sym edit.before) (omega arith) lt in
          let agree : take (first (drop p units) + 1) (drop p units) ≡ take (first (drop p units) + 1) (drop p old) = part_agrees units old start p (first (drop p units) + 1) (sym edit.before) (omega arith) in
          let same : first (drop p old) ≡ first (drop p units) = local (drop p units) (drop p old) (some_left units p lt) agree in
          let k : ℕ = ends_below start ends in
          let back : Walks first old (last_end 0 (take k ends)) (drop k ends) (length old) = walks_back first old 0 ends (length old) k cut in
          let from_p : Walks first old p (drop k ends) (length old) = subst (λ (n : ℕ). Walks first old n (drop k ends) (length old)) (sym is) back in
          let late : start ≤ p + first (drop p old) = rest_late first old ends start p (drop k ends) refl from_p in_old in
          omega arith
      | inr more ↦ more
    ]

-- So far no place is a boundary of both.
abbrev pub Unmet : {X : Type 0} → (List X → ℕ) → List X → List X → ℕ → ℕ → ℕ → Type 0
Unmet first old units b c at = (place : ℕ) → place < at → c ≤ place → IsBoundary first units place → IsBoundary first old ((place - c) + b) → ⊥

pub still_unmet : {X : Type 0} (first : List X → ℕ) (old units : List X) (ends : List ℕ) (b c : ℕ) (xs : List ℕ) (at next : ℕ)
    → IsCut first old ends → Walks first units 0 xs at → Unmet first old units b c at
    → (c ≤ at → (k : ℕ) → last_end 0 (take k ends) ≡ (at - c) + b → ⊥) → next ≡ at + first (drop at units)
    → Unmet first old units b c next
still_unmet first old units ends b c xs at next cut walk unmet none e = λ place lt after in_new in_old.
    elim (cases_lt place at) [
      | inl less ↦ unmet place less after in_new in_old
      | inr more ↦
          elim (cases_lt at place) [
            | inl inner ↦ absurd (omega (arith, none_inside first units 0 xs in_new.0 at place walk in_new.1 inner))
            | inr outer ↦
                let count = boundary_count first old 0 ends in_old.0 ((place - c) + b) cut in_old.1 in
                let same : (place - c) + b ≡ (at - c) + b = omega arith in
                none (omega arith) count.0 (count.1 ∙ same)
          ]
    ]

-- The ends of both lists meet, so a place that doesn't meet is before the end.
pub not_at_end : {X : Type 0} (first : List X → ℕ) (old units : List X) (ends : List ℕ) (start b c at : ℕ)
    → IsEdit old units start b c → IsCut first old ends → at ≤ length units
    → (c ≤ at → (k : ℕ) → last_end 0 (take k ends) ≡ (at - c) + b → ⊥) → at < length units
not_at_end first old units ends start b c at edit cut inside none =
    elim (cases_lt at (length units)) [
      | inl less ↦ less
      | inr more ↦
          let whole : last_end 0 (take (length ends) ends) ≡ length old = ap (last_end 0) (take_all (length ends) ends (omega arith)) ∙ walks_last first old 0 ends (length old) cut in
          let place : length old ≡ (at - c) + b = omega (arith, same_length old units start b c edit, edit.new_inside) in
          absurd (none (omega (arith, edit.new_inside)) (length ends) (whole ∙ place))
    ]

-- From a common boundary after the edit on, the members are the old ones, moved.
pub shift : {X : Type 0} (first : List X → ℕ) (old units : List X) (b c m : ℕ) (xs : List ℕ) (to : ℕ)
    → drop b old ≡ drop c units → c ≤ length units → Walks first old (b + m) xs to
    → Walks first units (c + m) (moved b c xs) ((to - b) + c)
shift first old units b c m [] to e le w = omega (arith, w)
shift {X} first old units b c m (x ∷ xs) to e le w =
    let rest : drop (b + m) old ≡ drop (c + m) units = sym (drop-drop m b old) ∙ (ap (drop m) e ∙ drop-drop m c units) in
    let lengths : length old - (b + m) ≡ length units - (c + m) = sym (length-drop (b + m) old) ∙ (ap length rest ∙ length-drop (c + m) units) in
    let same : first (drop (b + m) old) ≡ first (drop (c + m) units) = ap first rest in
    let there : x ≡ b + (x - b) = omega (arith, w.1) in
    let on : Walks first units (c + (x - b)) (moved b c xs) ((to - b) + c) = shift first old units b c (x - b) xs to e le (subst (λ (n : ℕ). Walks first old n xs to) there w.2) in
    let moved_there : c + (x - b) ≡ (x - b) + c = omega arith in
    (omega (arith, w.0), omega (arith, w.1), subst (λ (n : ℕ). Walks first units n (moved b c xs) ((to - b) + c)) moved_there on)
