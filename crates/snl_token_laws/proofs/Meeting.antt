-- The first common boundary that is searched for among the ends is there, and is the least.
use Rattle.std.proofs.Common.{◌≡◌, ℕ, ◌+◌, ◌-◌, ◌≤◌, ◌⊎◌, inl, inr, Bool, true, ◌&&◌, cond, nat_eq, nat_le, List, [], ◌∷◌, length, refl, sym, ap, ◌∙◌, subst, arith, length-drop}
use Rattle.std.specs.List.{list_any}
use Rattle.std.proofs.lemmas.Bool.{and_from, and_parts, cases_Bool, eq-eqb, eqb-true, false≢true, le-leb, leb-true, or_cases, or_left, or_right}
use Rattle.snl_cut.specs.Cut.{IsCut, IsEdit, IsMeet, Rises, Walks, ends_of, is_boundary, last_end, meet_from, meet_of}
use Rattle.snl_cut.specs.CutLaws.{same_length}

-- ---- boundaries

-- The place is where the members begin, or one of the ends.
abbrev pub IsAmong : ℕ → List ℕ → ℕ → Type 0
IsAmong from ends place = (place ≡ from) ⊎ (list_any (nat_eq place) ends ≡ true)

among_more : (from e : ℕ) (es : List ℕ) (place : ℕ) → IsAmong e es place → IsAmong from (e ∷ es) place
among_more from e es place h =
    elim h [
      | inl here ↦ inr (or_left (nat_eq place e) (list_any (nat_eq place) es) (eq-eqb place e here))
      | inr later ↦ inr (or_right (nat_eq place e) (list_any (nat_eq place) es) later)
    ]

pub among_rest : (from e : ℕ) (es : List ℕ) (place : ℕ) → list_any (nat_eq place) (e ∷ es) ≡ true → IsAmong e es place
among_rest from e es place h =
    elim (or_cases (nat_eq place e) (list_any (nat_eq place) es) h) [ inl here ↦ inl (eqb-true place e here) | inr later ↦ inr later ]

-- A walk leads to each of the ends.
walk_to : {X : Type 0} (first : List X → ℕ) (units : List X) (from : ℕ) (ends : List ℕ) (to place : ℕ) → Walks first units from ends to → IsAmong from ends place → (es : List ℕ) × Walks first units from es place
walk_to first units from [] to place w h = elim h [ inl here ↦ ([], sym here) | inr later ↦ cc ]
walk_to first units from (e ∷ ends) to place w h =
    elim h [
      | inl here ↦ ([], sym here)
      | inr later ↦
          let rest : (es : List ℕ) × Walks first units e es place = walk_to first units e ends to place w.2 (among_rest from e ends place later) in
          (e ∷ rest.0, (w.0, w.1, rest.1))
    ]

-- Where a walk leads is among the ends of the cut.
pub led_among : {X : Type 0} (first : List X → ℕ) (units : List X) (from : ℕ) (ends es : List ℕ) (place : ℕ) → Walks first units from ends (length units) → Walks first units from es place → IsAmong from ends place
led_among first units from ends [] place w h = inl (sym h)
led_among first units from [] (e ∷ es) place w h = absurd (omega (arith, w, h.0))
led_among first units from (f ∷ ends) (e ∷ es) place w h =
    let same : e ≡ f = h.1 ∙ sym w.1 in
    among_more from f ends place (led_among first units f ends es place w.2 (subst (λ (n : ℕ). Walks first units n es place) same h.2))

test_among : (ends : List ℕ) (place : ℕ) → IsAmong 0 ends place → is_boundary ends place ≡ true
test_among ends place h =
    elim h [
      | inl here ↦ or_left (nat_eq place 0) (list_any (nat_eq place) ends) (eq-eqb place 0 here)
      | inr later ↦ or_right (nat_eq place 0) (list_any (nat_eq place) ends) later
    ]

among_tested : (ends : List ℕ) (place : ℕ) → is_boundary ends place ≡ true → IsAmong 0 ends place
among_tested ends place h =
    elim (or_cases (nat_eq place 0) (list_any (nat_eq place) ends) h) [ inl here ↦ inl (eqb-true place 0 here) | inr later ↦ inr later ]

-- ---- the search

-- The cuts meet at a place.
abbrev meets : List ℕ → ℕ → ℕ → ℕ → Bool
meets old_ends b c at = nat_le c at && is_boundary old_ends ((at - c) + b)

meet_meets : (old_ends : List ℕ) (b c at : ℕ) (ends : List ℕ) → meets old_ends b c (last_end at ends) ≡ true → meets old_ends b c (meet_from old_ends b c at ends) ≡ true
meet_meets old_ends b c at [] h = h
meet_meets old_ends b c at (e ∷ es) h =
    let rest : ℕ = meet_from old_ends b c e es in
    let G : Bool → Type 0 = λ (t : Bool). meets old_ends b c (cond t at rest) ≡ true in
    elim (cases_Bool (meets old_ends b c at)) [ inl here ↦ subst G (sym here) here | inr further ↦ subst G (sym further) (meet_meets old_ends b c e es h) ]

meet_among : (old_ends : List ℕ) (b c at : ℕ) (ends : List ℕ) → IsAmong at ends (meet_from old_ends b c at ends)
meet_among old_ends b c at [] = inl refl
meet_among old_ends b c at (e ∷ es) =
    let rest : ℕ = meet_from old_ends b c e es in
    let G : Bool → Type 0 = λ (t : Bool). IsAmong at (e ∷ es) (cond t at rest) in
    elim (cases_Bool (meets old_ends b c at)) [ inl here ↦ subst G (sym here) (inl refl) | inr further ↦ subst G (sym further) (among_more at e es rest (meet_among old_ends b c e es)) ]

pub among_above : (from : ℕ) (ends : List ℕ) (place : ℕ) → Rises from ends → IsAmong from ends place → from ≤ place
among_above from [] place r h = elim h [ inl here ↦ omega arith | inr later ↦ cc ]
among_above from (e ∷ es) place r h = elim h [ inl here ↦ omega arith | inr later ↦ omega (arith, r.0, among_above e es place r.1 (among_rest from e es place later)) ]

meet_least : (old_ends : List ℕ) (b c at : ℕ) (ends : List ℕ) (place : ℕ) → Rises at ends → meets old_ends b c place ≡ true → IsAmong at ends place → meet_from old_ends b c at ends ≤ place
meet_least old_ends b c at [] place r m h = among_above at [] place r h
meet_least old_ends b c at (e ∷ es) place r m h =
    let rest : ℕ = meet_from old_ends b c e es in
    let G : Bool → Type 0 = λ (t : Bool). cond t at rest ≤ place in
    elim (cases_Bool (meets old_ends b c at)) [
      | inl here ↦ subst G (sym here) (among_above at (e ∷ es) place r h)
      | inr further ↦
          subst G (sym further) (
          elim h [
            | inl same ↦ absurd (false≢true (sym further ∙ (ap (meets old_ends b c) (sym same) ∙ m)))
            | inr later ↦ meet_least old_ends b c e es place r.1 m (among_rest at e es place later)
          ]
          )
    ]

-- ---- the meeting point

pub edit_meets : {X : Type 0} (first : List X → ℕ) → ((units : List X) → IsCut first units (ends_of first units)) → ((units : List X) → Rises 0 (ends_of first units)) → ((units : List X) → last_end 0 (ends_of first units) ≡ length units)
    → (old units : List X) (start b c : ℕ) → IsEdit old units start b c → IsMeet first old units b c (meet_of first old units b c)
edit_meets {X} first cut rises last old units start b c is =
    let old_ends : List ℕ = ends_of first old in
    let ends : List ℕ = ends_of first units in
    let meet : ℕ = meet_of first old units b c in
    let old_last : is_boundary old_ends (length old) ≡ true = test_among old_ends (length old) (led_among first old 0 old_ends old_ends (length old) (cut old) (cut old)) in
    let both_last : meets old_ends b c (last_end 0 ends) ≡ true =
    ap (meets old_ends b c) (last units)
    ∙ and_from (nat_le c (length units)) (is_boundary old_ends ((length units - c) + b)) (le-leb c (length units) is.new_inside) (ap (is_boundary old_ends) (same_length old units start b c is) ∙ old_last) in
    let here = and_parts (nat_le c meet) (is_boundary old_ends ((meet - c) + b)) (meet_meets old_ends b c 0 ends both_last) in
    record {
      after = leb-true c meet here.0;
      in_new = walk_to first units 0 ends (length units) meet (cut units) (meet_among old_ends b c 0 ends);
      in_old = walk_to first old 0 old_ends (length old) ((meet - c) + b) (cut old) (among_tested old_ends ((meet - c) + b) here.1);
      least = λ place after in_new in_old.
          let there : is_boundary old_ends ((place - c) + b) ≡ true = test_among old_ends ((place - c) + b) (led_among first old 0 old_ends in_old.0 ((place - c) + b) (cut old) in_old.1) in
          meet_least old_ends b c 0 ends place (rises units) (and_from (nat_le c place) (is_boundary old_ends ((place - c) + b)) (le-leb c place after) there)
          (led_among first units 0 ends in_new.0 place (cut units) in_new.1);
    }
