-- The items of a state set follow the one that begins it: how many they are.
use Rattle.std.proofs.Common.{◌≡◌, ℕ, zero, suc, ◌+◌, ◌-◌, ◌<◌, ◌≤◌, true, false, cond, List, length, get_or, inl, inr, refl, ap, sym, subst, ◌∙◌, arith}
use Rattle.std.specs.List.{prefix_len, range_with_len}
use Rattle.std.proofs.lemmas.Bool.{cases_lt, false≢true}
use Rattle.std.proofs.lemmas.List.FromFn.{get_or-range_with_len, length-range_with_len}
use Rattle.std.proofs.lemmas.List.Sums.{prefix_len-le-length, prefix_len_is, prefix_len_stops}
use Rattle.snl_summary.specs.declared.summary.Outline.{Outline}
use Rattle.snl_scope.specs.Places.{stands_in}
use Rattle.snl_questions.specs.Symbols.{count_within, last_within}

module _ (ss : List Outline) (i : ℕ) where
  -- how many items are after it, and their numbers
  abbrev count : ℕ
  count = length ss - (i + 1)

  abbrev later : List ℕ
  later = range_with_len (i + 1) count

  later_at : (n : ℕ) → n < count → get_or later n 0 ≡ i + 1 + n
  later_at n l = get_or-range_with_len (i + 1) count n 0 l

  -- ---- the last one

  -- the items up to the next one are in the set, and that one isn't, or there is none
  pub last_before : (next : ℕ) → i < next → next ≤ length ss →
      ((j : ℕ) → i < j → j < next → stands_in ss i j ≡ true) →
      (next < length ss → stands_in ss i next ≡ false) → next - 1 ≡ last_within ss i
  last_before next after inside within out =
      let n : ℕ = next - (i + 1) in
      let all = length-range_with_len (i + 1) count in
      let few : n ≤ length later = omega (arith, all) in
      let passes : (k : ℕ) → k < n → stands_in ss i (get_or later k 0) ≡ true = λ k l.
      subst (λ m. stands_in ss i m ≡ true) (sym (later_at k (omega (arith, l))))
      (within (i + 1 + k) (omega arith) (omega (arith, l))) in
      let stops : n < length later → stands_in ss i (get_or later n 0) ≡ false = λ l.
      let is : i + 1 + n ≡ next = omega (arith, after) in
      subst (λ m. stands_in ss i m ≡ false)
      (sym (later_at n (omega (arith, l, all)) ∙ is)) (out (omega (arith, l, all))) in
      let counted : count_within ss i ≡ n =
      prefix_len_is (stands_in ss i) later n 0 few passes stops in
      omega (arith, counted)

  -- it is an item
  pub last_inside : i < length ss → last_within ss i < length ss
  last_inside there =
      omega (
        arith,
        there,
        prefix_len-le-length (stands_in ss i) later,
        length-range_with_len (i + 1) count,
      )

  -- where the items up to one are in the set, that one isn't after the last
  pub reaches : (j : ℕ) → i < j → j < length ss →
      ((m : ℕ) → i < m → m ≤ j → stands_in ss i m ≡ true) → j ≤ last_within ss i
  reaches j after there within =
      let n : ℕ = count_within ss i in
      let all = length-range_with_len (i + 1) count in
      elim (cases_lt n (j - i)) [
        | inr enough ↦ omega (arith, enough)
        | inl few ↦
            let stopped : stands_in ss i (get_or later n 0) ≡ false =
            prefix_len_stops (stands_in ss i) later 0 (omega (arith, few, all)) in
            let is = later_at n (omega (arith, few)) in
            absurd (false≢true (sym stopped ∙ ap (stands_in ss i) is
            ∙ within (i + 1 + n) (omega arith) (omega (arith, few))))
      ]

  -- where no item after it is in a set that it begins, it is the last one itself
  pub alone : stands_in ss i (i + 1) ≡ false → last_within ss i ≡ i
  alone out = let none = by count in omega (arith, none)
    where
      by : (c : ℕ) → prefix_len (stands_in ss i) (range_with_len (i + 1) c) ≡ 0
      by zero = refl
      by (suc c) = ap (λ b. cond b (1 + prefix_len (stands_in ss i)
          (range_with_len (i + 1 + 1) c)) 0) out
