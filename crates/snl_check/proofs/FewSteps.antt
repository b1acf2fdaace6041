-- Walks of few steps: what is reached in as many steps as there are states is all that is reached.
use Rattle.std.proofs.Common.{◌≡◌, ◌⊎◌, ◌↔◌, ◌||◌, ◌&&◌, ℕ, zero, suc, ◌+◌, ◌<◌, ◌≤◌, Bool, true, false, cond, List, [], length, get_or, nat_eq, slice_get, slice_index_or, All, Contains, Some, inl, inr, refl, sym, ap, subst, ◌∙◌, arith}
use Rattle.std.specs.Cmp.{decided, unsigned_Decides}
use Rattle.std.proofs.Math.Bool.{or-true}
use Rattle.std.proofs.lemmas.Bool.{and_parts, cases_eq, cases_lt, eqb-true, false≢true, or_cases}
use Rattle.std.proofs.lemmas.List.{get_or_past}
use Rattle.std.proofs.lemmas.List.Elements.{All-contains, All-get_or}
use Rattle.std.proofs.lemmas.Map.Views.{Contains-from_any, list_any-from_Contains}
use Rattle.std.proofs.lemmas.Option.{get_or_from_slice_get, slice_get-get_or}
use Rattle.snl_scope.specs.Below.{any_below}
use Rattle.snl_check.specs.Reach.{AreStates, IsReached, IsTarget, is_reached, is_reached_within, leads_on}
use Rattle.snl_check.proofs.Walks.{end_of_walk, first_reached, reached_more}

-- a number below n that passes
found_below : (p : ℕ → Bool) (n k : ℕ) → k < n → p k ≡ true → any_below p n ≡ true
found_below p zero k l h = absurd (omega (arith, l))
found_below p (suc n) k l h =
    elim (cases_eq k n) [
      | inl e ↦ ap (λ b. b || any_below p n) (subst (λ i. p i ≡ true) e h)
      | inr ne ↦ ap (λ b. p n || b) (found_below p n k (omega (arith, l, ne)) h) ∙ or-true (p n)
    ]

below_found : (p : ℕ → Bool) (n : ℕ) → any_below p n ≡ true → (k : ℕ) × (k < n) × (p k ≡ true)
below_found p zero h = absurd (false≢true h)
below_found p (suc n) h =
    elim (or_cases (p n) (any_below p n) h) [
      | inl e ↦ (n, omega arith, e)
      | inr e ↦ let (k, l, t) = below_found p n e in (k, omega (arith, l), t)
    ]

-- how many numbers below n pass
abbrev count_below : (ℕ → Bool) → ℕ → ℕ
count_below p zero = 0
count_below p (suc n) = cond (p n) 1 0 + count_below p n

count_most : (p : ℕ → Bool) (n : ℕ) → count_below p n ≤ n
count_most p zero = omega arith
count_most p (suc n) =
    let before = count_most p n in
    elim (p n) as (λ b. cond b 1 0 + count_below p n ≤ suc n) [ true ↦ omega (arith, before) | false ↦ omega (arith, before) ]

-- the first number passes
count_first : (p : ℕ → Bool) → p 0 ≡ true → (n : ℕ) → 0 < n → 0 < count_below p n
count_first p first zero l = absurd (omega (arith, l))
count_first p first (suc zero) l = let one = ap {B = ℕ} (λ b. cond b 1 0) first in omega (arith, one)
count_first p first (suc (suc n)) l = let before = count_first p first (suc n) (omega arith) in omega (arith, before)

-- where more pass, the count is greater, or it is the same numbers that pass
module _ (p q : ℕ → Bool) (more : (k : ℕ) → p k ≡ true → q k ≡ true) where
  one_more : (b c : Bool) → (b ≡ true → c ≡ true) → cond b 1 0 ≤ cond c 1 0
  one_more false c h = omega arith
  one_more true true h = omega arith
  one_more true false h = absurd (false≢true (h refl))

  count_rises : (n : ℕ) → count_below p n ≤ count_below q n
  count_rises zero = omega arith
  count_rises (suc n) = let here = one_more (p n) (q n) (more n) in let before = count_rises n in omega (arith, here, before)

  same_or_more : (n : ℕ) → ((k : ℕ) → k < n → q k ≡ true → p k ≡ true) ⊎ (count_below p n < count_below q n)
  same_or_more zero = inl (λ k l h. absurd (omega (arith, l)))
  same_or_more (suc n) =
      let here = one_more (p n) (q n) (more n) in
      let before = count_rises n in
      let by : (b c : Bool) → p n ≡ b → q n ≡ c → cond b 1 0 ≤ cond c 1 0 → ((k : ℕ) → k < n → q k ≡ true → p k ≡ true) ⊎ (count_below p n < count_below q n) →
      ((k : ℕ) → k < suc n → q k ≡ true → p k ≡ true) ⊎ (cond b 1 0 + count_below p n < cond c 1 0 + count_below q n) =
      λ b c. elim b as (λ b. p n ≡ b → q n ≡ c → cond b 1 0 ≤ cond c 1 0 → ((k : ℕ) → k < n → q k ≡ true → p k ≡ true) ⊎ (count_below p n < count_below q n) →
      ((k : ℕ) → k < suc n → q k ≡ true → p k ≡ true) ⊎ (cond b 1 0 + count_below p n < cond c 1 0 + count_below q n)) [
        | true ↦ λ is has le rest. elim rest [
          | inl same ↦ inl (λ k l h. elim (cases_eq k n) [ inl e ↦ subst (λ i. p i ≡ true) (sym e) is | inr ne ↦ same k (omega (arith, l, ne)) h ])
          | inr less ↦ inr (omega (arith, less, le))
        ]
        | false ↦ elim c as (λ c. p n ≡ false → q n ≡ c → 0 ≤ cond c 1 0 → ((k : ℕ) → k < n → q k ≡ true → p k ≡ true) ⊎ (count_below p n < count_below q n) →
            ((k : ℕ) → k < suc n → q k ≡ true → p k ≡ true) ⊎ (0 + count_below p n < cond c 1 0 + count_below q n)) [
              | true ↦ λ is has le rest. inr (omega (arith, before))
              | false ↦ λ is has le rest. elim rest [
                | inl same ↦ inl (λ k l h. elim (cases_eq k n) [ inl e ↦ absurd (false≢true (sym has ∙ subst (λ i. q i ≡ true) e h)) | inr ne ↦ same k (omega (arith, l, ne)) h ])
                | inr less ↦ inr (omega (arith, less))
              ]
            ]
      ] in
      by (p n) (q n) refl refl here (same_or_more n)

module _ (targets : List (List ℕ)) where
  is_target : (s t : ℕ) → leads_on targets s t ≡ true → IsTarget targets s t
  is_target s t h = Contains-from_any (λ x y e. eqb-true x y e) t (slice_index_or targets s []) h

  goes_on : (s t : ℕ) → IsTarget targets s t → leads_on targets s t ≡ true
  goes_on s t h = list_any-from_Contains (decided nat_eq unsigned_Decides) t (slice_index_or targets s []) h

  -- only states have targets
  from_state : (s t : ℕ) → IsTarget targets s t → s < length targets
  from_state s t h =
      elim (cases_lt s (length targets)) [
        | inl l ↦ l
        | inr past ↦ let (k, l, e) = subst (λ ts. Contains ts t) (get_or_past targets s [] past) h in absurd (omega (arith, l))
      ]

  module _ (states : AreStates targets) where
    to_state : (s t : ℕ) → IsTarget targets s t → t < length targets
    to_state s t h = All-contains (λ t. t < length targets) (slice_index_or targets s []) t (All-get_or (All (λ t. t < length targets)) targets s [] (from_state s t h) states) h

    -- a state that is reached in few steps is reached
    few_reached : (steps s : ℕ) → s < length targets → is_reached_within targets steps s ≡ true → IsReached targets s
    few_reached zero s l h = subst (IsReached targets) (sym (eqb-true s 0 h)) (first_reached targets (omega (arith, l)))
    few_reached (suc steps) t l h =
        elim (or_cases (is_reached_within targets steps t) (any_below (λ s. is_reached_within targets steps s && leads_on targets s t) (length targets)) h) [
          | inl e ↦ few_reached steps t l e
          | inr e ↦
              let (s, within, k) = below_found (λ s. is_reached_within targets steps s && leads_on targets s t) (length targets) e in
              let (first, last) = and_parts (is_reached_within targets steps s) (leads_on targets s t) k in
              reached_more targets s t (few_reached steps s within first) (is_target s t last) l
        ]

    -- with one more step no state is lost
    one_step : (steps s : ℕ) → is_reached_within targets steps s ≡ true → is_reached_within targets (suc steps) s ≡ true
    one_step steps t h = ap (λ b. b || any_below (λ s. is_reached_within targets steps s && leads_on targets s t) (length targets)) h

    -- and each target of a reached state is reached
    next_step : (steps s t : ℕ) → is_reached_within targets steps s ≡ true → IsTarget targets s t → is_reached_within targets (suc steps) t ≡ true
    next_step steps s t h step =
        let found = found_below (λ s. is_reached_within targets steps s && leads_on targets s t) (length targets) s (from_state s t step) (ap (λ b. b && leads_on targets s t) h ∙ goes_on s t step) in
        ap (λ b. is_reached_within targets steps t || b) found ∙ or-true (is_reached_within targets steps t)

    -- no walk leads out of what is reached in so many steps
    abbrev IsClosed : ℕ → Type 0
    IsClosed steps = (s t : ℕ) → is_reached_within targets steps s ≡ true → IsTarget targets s t → is_reached_within targets steps t ≡ true

    closed_stays : (steps s : ℕ) → IsClosed steps → is_reached_within targets (suc steps) s ≡ true → is_reached_within targets steps s ≡ true
    closed_stays steps t closed h =
        elim (or_cases (is_reached_within targets steps t) (any_below (λ s. is_reached_within targets steps s && leads_on targets s t) (length targets)) h) [
          | inl e ↦ e
          | inr e ↦
              let (s, within, k) = below_found (λ s. is_reached_within targets steps s && leads_on targets s t) (length targets) e in
              let (first, last) = and_parts (is_reached_within targets steps s) (leads_on targets s t) k in
              closed s t first (is_target s t last)
        ]

    closed_next : (steps : ℕ) → IsClosed steps → IsClosed (suc steps)
    closed_next steps closed = λ s t h step. one_step steps t (closed s t (closed_stays steps s closed h) step)

    -- each step comes to a new state, until no walk leads out
    closed_or_many : 0 < length targets → (steps : ℕ) → IsClosed steps ⊎ (steps < count_below (is_reached_within targets steps) (length targets))
    closed_or_many some zero = inr (count_first (is_reached_within targets 0) refl (length targets) some)
    closed_or_many some (suc steps) =
        elim (closed_or_many some steps) [
          | inl closed ↦ inl (closed_next steps closed)
          | inr many ↦
              elim (same_or_more (is_reached_within targets steps) (is_reached_within targets (suc steps)) (one_step steps) (length targets)) [
                | inl same ↦ inl (closed_next steps (λ s t h step. same t (to_state s t step) (next_step steps s t h step)))
                | inr more ↦ inr (omega (arith, many, more))
              ]
        ]

    all_closed : 0 < length targets → IsClosed (length targets)
    all_closed some =
        elim (closed_or_many some (length targets)) [
          | inl closed ↦ closed
          | inr many ↦ let most = count_most (is_reached_within targets (length targets)) (length targets) in absurd (omega (arith, many, most))
        ]

    first_stays : (steps : ℕ) → is_reached_within targets steps 0 ≡ true
    first_stays zero = refl
    first_stays (suc steps) = one_step steps 0 (first_stays steps)

    reached_few : (s : ℕ) → 0 < length targets → IsReached targets s → is_reached_within targets (length targets) s ≡ true
    reached_few s some (walk, along) = end_of_walk targets (λ t. is_reached_within targets (length targets) t ≡ true) (all_closed some) walk 0 s along (first_stays (length targets))

    pub few_steps : (s : ℕ) → s < length targets → (is_reached targets s ≡ true) ↔ IsReached targets s
    unfolding is_reached
    few_steps s l = (few_reached (length targets) s l, reached_few s (omega (arith, l)))

    -- what a search says that listed just what is reached
    pub each_decided : (listed : List Bool) → length listed ≡ length targets → ((s : ℕ) → (slice_get listed s ≡ Some true) ↔ IsReached targets s) → (s : ℕ) → s < length targets → slice_get listed s ≡ Some (is_reached targets s)
    each_decided listed as_long says s l =
        let at = slice_get-get_or listed s false (omega (arith, l, as_long)) in
        at ∙ ap Some (by (is_reached targets s) (get_or listed s false) refl refl)
      where
        by : (b m : Bool) → is_reached targets s ≡ b → get_or listed s false ≡ m → m ≡ b
        by true true is is_listed = refl
        by true false is is_listed = absurd (false≢true (sym is_listed ∙ get_or_from_slice_get listed s true false ((says s).1 ((few_steps s l).0 is))))
        by false true is is_listed = absurd (false≢true (sym is ∙ (few_steps s l).1 ((says s).0 (slice_get-get_or listed s false (omega (arith, l, as_long)) ∙ ap Some is_listed))))
        by false false is is_listed = refl
