-- Which items of a new text are fresh, and the numbers that the kept ones had.
use Rattle.std.proofs.Common.{arith, ◌≡◌, ◌≢◌, ℕ, zero, suc, ◌+◌, ◌-◌, ◌<◌, ◌≤◌, ◌⊎◌, inl, inr, Bool, true, false, List, [], ◌∷◌, ◌++◌, length, take, drop, get_or, nat_eq, nat_lt, Option, None, Some, refl, sym, ap, subst, ◌∙◌, cond, length-append, length-drop}
use Rattle.std.proofs.lemmas.Bool.{le-ltb, lt-ltb, cases_lt}
use Rattle.std.proofs.lemmas.Bool.Decides.{Decides-eqb, eqb_tells}
use Rattle.std.proofs.lemmas.List.{get_or-append-add, get_or_append_left, length-map, length-take-le}
use Rattle.std.proofs.lemmas.List.Folds.{list_any_at, list_any_none}
use Rattle.snl_cut.specs.Cut.{Rises, joined, moved}
use Rattle.snl_kept.specs.NewChecks.{kept_of, number_before}
use Rattle.snl_kept.specs.Stirred.{is_fresh, old_number}
use Rattle.snl_cut.specs.CutLaws.{rises_at}

-- ---- ends that rise

rises_by_number : (from : ℕ) (xs : List ℕ) (i j : ℕ) → Rises from xs → i < j → j < length xs → get_or xs i 0 < get_or xs j 0
rises_by_number from [] i j h lt inside = omega arith
rises_by_number from (x ∷ xs) i zero h lt inside = omega arith
rises_by_number from (x ∷ xs) zero (suc j) h lt inside = rises_at x xs j h.1 (omega arith)
rises_by_number from (x ∷ xs) (suc i) (suc j) h lt inside = rises_by_number x xs i j h.1 (omega arith) (omega arith)

-- different numbers have different ends
differ : (xs : List ℕ) (i j : ℕ) → Rises 0 xs → i < length xs → j < length xs → i ≢ j → get_or xs i 0 ≢ get_or xs j 0
differ xs i j h within inside ne e =
    elim (less i j ne) [
      | inl lt ↦ let there = rises_by_number 0 xs i j h lt inside in omega (arith, e, there)
      | inr lt ↦ let there = rises_by_number 0 xs j i h lt within in omega (arith, e, there)
    ]
  where
    less : (i j : ℕ) → i ≢ j → (i < j) ⊎ (j < i)
    less i j ne = elim (cases_lt i j) [ inl lt ↦ inl lt | inr le ↦ inr (omega arith) ]

unequal : (a b : ℕ) → a ≢ b → nat_eq a b ≡ false
unequal a b ne = elim (eqb_tells a b) [ inl t ↦ absurd (ne t.1) | inr f ↦ f.0 ]

-- ---- ends of which a part in the middle is fresh

module _ (front made after : List ℕ) (rise : Rises 0 ((front ++ made) ++ after)) where
  abbrev all : List ℕ
  all = (front ++ made) ++ after

  middle : (k : ℕ) → k < length made → get_or all (length front + k) 0 ≡ get_or made k 0
  middle k lt =
      get_or_append_left (front ++ made) after 0 (length front + k) (omega (arith, length-append front made))
      ∙ get_or-append-add front made k 0

  inside : (k : ℕ) → k < length made → length front + k < length all
  inside k lt = omega (arith, length-append front made, length-append (front ++ made) after)

  -- an end outside the part is not fresh
  outside_part : (i : ℕ) → i < length all → ((k : ℕ) → k < length made → i ≢ length front + k) → is_fresh all made i ≡ false
  outside_part i lt other =
      list_any_none (nat_eq (get_or all i 0)) made
      (λ k d within. unequal (get_or all i 0) (get_or made k d) (λ e. differ all i (length front + k) rise lt (inside k within) (other k within)
      (e ∙ any_default made k d within ∙ sym (middle k within))))
    where
      any_default : (xs : List ℕ) (k d : ℕ) → k < length xs → get_or xs k d ≡ get_or xs k 0
      any_default [] k d lt = omega arith
      any_default (x ∷ xs) zero d lt = refl
      any_default (x ∷ xs) (suc k) d lt = any_default xs k d (omega arith)

  -- and each end in it is
  in_part : (i : ℕ) → length front ≤ i → i < length front + length made → is_fresh all made i ≡ true
  in_part i from to =
      let k : ℕ = i - length front in
      let there : length front + k ≡ i = omega arith in
      let within : k < length made = omega arith in
      list_any_at (nat_eq (get_or all i 0)) made k 0 within
      ((Decides-eqb (get_or all i 0) (get_or made k 0)).1 (ap (λ (n : ℕ). get_or all n 0) (sym there) ∙ middle k within))

-- ---- the numbers that items had

module _ (count front : ℕ) (made : List ℕ) (back : ℕ) where
  abbrev by_tests : Bool → Bool → ℕ → Option ℕ
  by_tests b c i = cond b (Some i) (cond c None (Some ((i - (front + length made)) + (count - back))))

  pub number_at_front : (i : ℕ) → i < front → number_before (kept_of count front made back) i ≡ Some i
  number_at_front i lt = ap (λ b. by_tests b (nat_lt i (front + length made)) i) (lt-ltb i front lt)

  pub number_of_made : (i : ℕ) → front ≤ i → i < front + length made → number_before (kept_of count front made back) i ≡ None
  number_of_made i from to =
      ap (λ b. by_tests b (nat_lt i (front + length made)) i) (le-ltb i front from) ∙ ap (λ c. by_tests false c i) (lt-ltb i (front + length made) to)

  pub number_at_back : (i : ℕ) → front + length made ≤ i → number_before (kept_of count front made back) i ≡ Some ((i - (front + length made)) + (count - back))
  number_at_back i from =
      ap (λ b. by_tests b (nat_lt i (front + length made)) i) (le-ltb i front (omega arith)) ∙ ap (λ c. by_tests false c i) (le-ltb i (front + length made) from)

-- ---- the items of a new text

-- Item i is fresh and had no number, or it isn't and had the number that it has by `old_number`.
unfoldable pub IsNumbered : (ends made : List ℕ) (before count i : ℕ) (number : Option ℕ) → Type 0
IsNumbered ends made before count i number =
    ((is_fresh ends made i ≡ true) × (number ≡ None)) ⊎ ((is_fresh ends made i ≡ false) × (number ≡ Some (old_number before count (length ends) i)))

-- so many ends of the old text are kept at the front and at the back; `made` are those between
module _ (old ends made : List ℕ) (old_stop new_stop front back : ℕ) (order : front + back ≤ length old)
    (is : ends ≡ joined old old_stop new_stop front made back) where
  abbrev first : List ℕ
  first = take front old

  abbrev last : List ℕ
  last = moved old_stop new_stop (drop (length old - back) old)

  first_count : length first ≡ front
  first_count = length-take-le front old (omega arith)

  last_count : length last ≡ back
  last_count =
      let d : length (drop (length old - back) old) ≡ length old - (length old - back) = length-drop (length old - back) old in
      let m : length last ≡ length (drop (length old - back) old) = length-map (drop (length old - back) old) (λ e. (e - old_stop) + new_stop) in
      omega (arith, d, m)

  pub count : length ends ≡ front + length made + back
  count = omega (arith, ap length is, length-append (first ++ made) last, length-append first made, first_count, last_count)

  -- `before` of the old items end before the edit
  module _ (before : ℕ) (rise : Rises 0 ends) (kept : (front ≡ before) ⊎ ((front ≡ length old) × (made ≡ []))) where
    rise_all : Rises 0 ((first ++ made) ++ last)
    rise_all = subst (Rises 0) is rise

    fresh_is : (i : ℕ) (b : Bool) → is_fresh ((first ++ made) ++ last) made i ≡ b → is_fresh ends made i ≡ b
    fresh_is i b h = ap (λ (l : List ℕ). is_fresh l made i) is ∙ h

    within_all : (i : ℕ) → i < length ends → i < length ((first ++ made) ++ last)
    within_all i lt = omega (arith, ap length is)

    -- at the front
    at_front : (i : ℕ) → i < length ends → i < front → IsNumbered ends made before (length old) i (number_before (kept_of (length old) front made back) i)
    unfolding IsNumbered
    at_front i lt lower =
        let fresh = fresh_is i false (outside_part first made last rise_all i (within_all i lt) (λ k w e. omega (arith, e, first_count))) in
        let same : old_number before (length old) (length ends) i ≡ i = old_front in
        inr (fresh, number_at_front (length old) front made back i lower ∙ ap Some (sym same))
      where
        either : (b : Bool) → (i + length old) - length ends ≡ i → cond b i ((i + length old) - length ends) ≡ i
        either true h = refl
        either false h = h

        old_front : old_number before (length old) (length ends) i ≡ i
        old_front = elim kept [
          | inl e ↦ ap (λ b. cond b i ((i + length old) - length ends)) (lt-ltb i before (omega (arith, e)))
          | inr e ↦ either (nat_lt i before) (omega (arith, count, e.0, ap length e.1))
        ]

    -- between
    at_made : (i : ℕ) → i < length ends → front ≤ i → i < front + length made → IsNumbered ends made before (length old) i (number_before (kept_of (length old) front made back) i)
    unfolding IsNumbered
    at_made i lt from to =
        let fresh = fresh_is i true (in_part first made last rise_all i (omega (arith, first_count)) (omega (arith, first_count))) in
        inl (fresh, number_of_made (length old) front made back i from to)

    -- at the back
    at_back : (i : ℕ) → i < length ends → front + length made ≤ i → IsNumbered ends made before (length old) i (number_before (kept_of (length old) front made back) i)
    unfolding IsNumbered
    at_back i lt from =
        let fresh = fresh_is i false (outside_part first made last rise_all i (within_all i lt) (λ k w e. omega (arith, e, first_count))) in
        let same : old_number before (length old) (length ends) i ≡ (i - (front + length made)) + (length old - back) = old_back in
        inr (fresh, number_at_back (length old) front made back i from ∙ ap Some (sym same))
      where
        old_back : old_number before (length old) (length ends) i ≡ (i - (front + length made)) + (length old - back)
        old_back = elim kept [
          | inl e ↦ ap (λ b. cond b i ((i + length old) - length ends)) (le-ltb i before (omega (arith, e))) ∙ omega (arith, count)
          | inr e ↦ omega (arith, count, e.0, ap length e.1)
        ]

    pub numbered : (i : ℕ) → i < length ends → IsNumbered ends made before (length old) i (number_before (kept_of (length old) front made back) i)
    numbered i lt =
        elim (cases_lt i front) [
          | inl b ↦ at_front i lt b
          | inr f ↦ elim (cases_lt i (front + length made)) [ inl t ↦ at_made i lt f t | inr t ↦ at_back i lt t ]
        ]
