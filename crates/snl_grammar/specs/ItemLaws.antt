-- The first item of a list is found, and tells no more of the list than the item and the one token
-- after it.
use Rattle.std.specs.Prelude.{◌≡◌, ℕ, zero, suc, ◌+◌, ◌-◌, ◌<◌, ◌≤◌, min, Bool, true, false, cond, List, [], ◌∷◌, length, take, refl}
use Rattle.std.specs.List.{slice_get}
use Rattle.std.proofs.Common.{sym, ap, ◌∙◌, inl, inr, arith, subst}
use Rattle.std.proofs.lemmas.Bool.{cases_lt}
use Rattle.std.proofs.lemmas.List.{take-take, length-take}
use Rattle.std.proofs.lemmas.Option.{slice_get_past}
use Rattle.snl_cut.specs.Cut.{IsFront, IsLocal}
use Rattle.snl_grammar.specs.declared.marks.Mark.{Mark}
use Rattle.snl_grammar.specs.Items.{ends_before, ends_after, least_from, item}

-- the number is the least from `low` on that passes
pub record IsLeast (p : ℕ → Bool) (low : ℕ) (k : ℕ) : Type 0 where
  pub above : low ≤ k
  pub passes : p k ≡ true
  pub none : (m : ℕ) → low ≤ m → m < k → p m ≡ false

pub least_here : (p : ℕ → Bool) (n turns : ℕ) → p n ≡ true → least_from p n (suc turns) ≡ n
least_here p n turns h = ap (λ (b : Bool). cond b n (least_from p (suc n) turns)) h

pub least_next : (p : ℕ → Bool) (n turns : ℕ) → p n ≡ false → least_from p n (suc turns) ≡ least_from p (suc n) turns
least_next p n turns h = ap (λ (b : Bool). cond b n (least_from p (suc n) turns)) h

pub least_is : (p : ℕ → Bool) (n turns k : ℕ) → k ≤ n + turns → IsLeast p n k → least_from p n turns ≡ k
least_is p n zero k high is = let same : n ≡ k = omega (arith, is.above) in same
least_is p n (suc turns) k high is =
    elim (cases_lt n k) [
      | inl less ↦
          least_next p n turns (is.none n (omega arith) less)
          ∙ least_is p (suc n) turns k (omega arith) (record { above = less; passes = is.passes; none = λ m low under. is.none m (omega arith) under })
      | inr more ↦
          let same : k ≡ n = omega (arith, is.above) in
          least_here p n turns (subst (λ (m : ℕ). p m ≡ true) same is.passes) ∙ sym same
    ]

-- where some number passes, there is a least one
found_step : (p : ℕ → Bool) (low n top : ℕ) → low ≤ n → n ≤ top → ((m : ℕ) → low ≤ m → m < n → p m ≡ false)
    → (b : Bool) → p n ≡ b
    → (((m : ℕ) → low ≤ m → m < suc n → p m ≡ false) → (k : ℕ) × (k ≤ top) × IsLeast p low k)
    → (k : ℕ) × (k ≤ top) × IsLeast p low k
found_step p low n top le under none true here again = (n, under, record { above = le; passes = here; none = none })
found_step p low n top le under none false here again =
    again (λ m from below.
    elim (cases_lt m n) [
      | inl less ↦ none m from less
      | inr at ↦ let same : n ≡ m = omega arith in subst (λ (i : ℕ). p i ≡ false) same here
    ])

found_from : (p : ℕ → Bool) (low n turns : ℕ) → low ≤ n → p (n + turns) ≡ true → ((m : ℕ) → low ≤ m → m < n → p m ≡ false)
    → (k : ℕ) × (k ≤ n + turns) × IsLeast p low k
found_from p low n zero le h none =
    let same : n + 0 ≡ n = omega arith in (n, omega arith, record { above = le; passes = subst (λ (m : ℕ). p m ≡ true) same h; none = none })
found_from p low n (suc turns) le h none =
    let same : n + suc turns ≡ suc n + turns = omega arith in
    found_step p low n (n + suc turns) le (omega arith) none (p n) refl (λ more.
    let rest = found_from p low (suc n) turns (omega arith) (subst (λ (m : ℕ). p m ≡ true) same h) more in
    (rest.0, omega (arith, rest.1), rest.2))

-- at the list's end an item ends
pub ends_at_end : (u : List Mark) → ends_after u (length u) ≡ true
ends_at_end u = ap (ends_before (take (length u) u)) (slice_get_past u (length u) (omega arith))

-- the first item is the least prefix after which it ends
pub item_found : (u : List Mark) → 0 < length u → (k : ℕ) × (k ≤ length u) × (item u ≡ k) × IsLeast (ends_after u) 1 k
item_found u some =
    let turns : ℕ = length u - 1 in
    let there : 1 + turns ≡ length u = omega arith in
    let found = found_from (ends_after u) 1 1 turns (omega arith) (subst (λ (m : ℕ). ends_after u m ≡ true) (sym there) (ends_at_end u)) (λ m low under. absurd (omega arith)) in
    (found.0, omega (arith, found.1, there), least_is (ends_after u) 1 (length u) found.0 (omega (arith, found.1, there)) found.2, found.2)

pub item_front : IsFront item
item_front u some =
    let found = item_found u some in
    (omega (arith, found.2, found.3.above), omega (arith, found.1, found.2))

-- a length that is within, after which it ends and after no lesser one, is that of the first item
pub item_is : (u : List Mark) (k : ℕ) → k ≤ length u → IsLeast (ends_after u) 1 k → item u ≡ k
item_is u k within is = least_is (ends_after u) 1 (length u) k (omega arith) is

pub get_taken : (u : List Mark) (m n : ℕ) → m < n → slice_get (take n u) m ≡ slice_get u m
get_taken u m zero h = absurd (omega arith)
get_taken [] m (suc n) h = refl
get_taken (x ∷ xs) zero (suc n) h = refl
get_taken (x ∷ xs) (suc m) (suc n) h = get_taken xs m n (omega arith)

-- whether it ends after m tokens is told by these and the one after them
pub ends_local : (u v : List Mark) (n m : ℕ) → m < n → take n u ≡ take n v → ends_after v m ≡ ends_after u m
ends_local u v n m h e =
    let front : take m u ≡ take m v = sym (take-take m n u (omega arith)) ∙ ap (take m) e ∙ take-take m n v (omega arith) in
    let next : slice_get u m ≡ slice_get v m = sym (get_taken u m n h) ∙ ap (λ (l : List Mark). slice_get l m) e ∙ get_taken v m n h in
    sym (ap (λ (l : List Mark). ends_before l (slice_get u m)) front ∙ ap (ends_before (take m v)) next)

item_local_at : (u v : List Mark) (k : ℕ) → k ≤ length u → IsLeast (ends_after u) 1 k → take (k + 1) u ≡ take (k + 1) v → item v ≡ k
item_local_at u v k within is e =
    let long : min (k + 1) (length u) ≡ min (k + 1) (length v) = sym (length-take (k + 1) u) ∙ ap length e ∙ length-take (k + 1) v in
    item_is v k (omega (arith, long)) (record {
      above = is.above;
      passes = ends_local u v (k + 1) k (omega arith) e ∙ is.passes;
      none = λ m low under. ends_local u v (k + 1) m (omega arith) e ∙ is.none m low under;
    })

pub item_local : IsLocal item
item_local u v some e =
    let found = item_found u some in
    item_local_at u v found.0 found.1 found.3 (subst (λ (n : ℕ). take (n + 1) u ≡ take (n + 1) v) found.2 e) ∙ sym found.2
