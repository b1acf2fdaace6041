-- Where the ends that are below a place stop.
use Rattle.std.proofs.Common.{◌≡◌, ℕ, suc, zero, ◌<◌, ◌≤◌, ◌⊎◌, inl, inr, List, [], ◌∷◌, length, drop, take, get_or, refl, ap, ◌∙◌, arith}
use Rattle.snl_cut.specs.Cut.{Rises, ends_below, last_end}
use Rattle.std.proofs.lemmas.Bool.{cases_lt}
use Rattle.snl_cut.specs.CutLaws.{rises_last, rises_at, below_yes, below_no}

-- An end that isn't below the place stops the count.
pub below_low : (place : ℕ) (ends : List ℕ) (k : ℕ) → k < length ends → place ≤ get_or ends k 0 → ends_below place ends ≤ k
below_low place [] k lt h = absurd (omega arith)
below_low place (e ∷ es) zero lt h = omega (arith, below_no e place es h)
below_low place (e ∷ es) (suc k) lt h =
    elim (cases_lt e place) [
      | inl less ↦ omega (arith, below_yes e place es less, below_low place es k (omega arith) h)
      | inr more ↦ omega (arith, below_no e place es more)
    ]

pub rises_take : (from : ℕ) (ends : List ℕ) (k : ℕ) → Rises from ends → Rises from (take k ends)
rises_take from ends zero h = tt
rises_take from [] (suc k) h = tt
rises_take from (e ∷ es) (suc k) h = (h.0, rises_take e es k h.1)

-- An end that is below the place is counted.
pub below_high : (place from : ℕ) (ends : List ℕ) (k : ℕ) → Rises from ends → k < length ends → get_or ends k 0 < place → k < ends_below place ends
below_high place from [] k r lt h = absurd (omega arith)
below_high place from (e ∷ es) zero r lt h = omega (arith, below_yes e place es h)
below_high place from (e ∷ es) (suc k) r lt h =
    let first : e < get_or es k 0 = rises_at e es k r.1 (omega arith) in
    omega (arith, below_yes e place es (omega arith), below_high place e es k r.1 (omega arith) h)

-- Where some member ends just at the place, it is the one after those that end below.
pub exact : (place from : ℕ) (ends : List ℕ) (k : ℕ) → Rises from ends → from < place → last_end from (take k ends) ≡ place
    → (ends_below place ends < length ends) × (get_or ends (ends_below place ends) 0 ≡ place)
exact place from ends zero r lt h = absurd (omega arith)
exact place from [] (suc k) r lt h = absurd (omega arith)
exact place from (e ∷ es) (suc k) r lt h =
    elim (cases_lt e place) [
      | inl less ↦
          let step = below_yes e place es less in
          let rest = exact place e es k r.1 less h in
          (omega (arith, step, rest.0), rw step rest.1)
      | inr more ↦
          let step = below_no e place es more in
          let last : e ≤ last_end e (take k es) = rises_last e (take k es) (rises_take e es k r.1) in
          let same : e ≡ place = omega arith in
          (omega (arith, step), rw step same)
    ]

-- Where the ends that are below the place stop, and those that aren't begin.
pub below_last : (place from : ℕ) (ends : List ℕ) → (ends_below place ends ≡ 0) ⊎ (last_end from (take (ends_below place ends) ends) < place)
below_last place from [] = inl refl
below_last place from (e ∷ es) =
    elim (cases_lt e place) [
      | inl less ↦
          inr (rw (below_yes e place es less)
          (elim (below_last place e es) [
            | inl none ↦ rw none less
            | inr some ↦ some
          ]))
      | inr more ↦ inl (below_no e place es more)
    ]

pub below_next : (place : ℕ) (ends : List ℕ) (e : ℕ) (es : List ℕ) → drop (ends_below place ends) ends ≡ e ∷ es → place ≤ e
below_next place [] e es h = cc
below_next place (x ∷ xs) e es h =
    elim (cases_lt x place) [
      | inl less ↦ below_next place xs e es (rw (below_yes x place xs less) at h)
      | inr more ↦ let k = rw (below_no x place xs more) at h in let same : x ≡ e = cc in omega arith
    ]

-- Where the first k members end just at the place, k members end at it or before it.
pub below_count : (place from : ℕ) (ends : List ℕ) (k : ℕ) → Rises from ends → k ≤ length ends → last_end from (take k ends) ≡ place → ends_below (suc place) ends ≡ k
below_count place from [] zero r le h = refl
below_count place from [] (suc k) r le h = absurd (omega arith)
below_count place from (e ∷ es) zero r le h = below_no e (suc place) es (omega (arith, r.0))
below_count place from (e ∷ es) (suc k) r le h =
    let last : e ≤ last_end e (take k es) = rises_last e (take k es) (rises_take e es k r.1) in
    below_yes e (suc place) es (omega arith) ∙ ap suc (below_count place e es k r.1 (omega arith) h)
