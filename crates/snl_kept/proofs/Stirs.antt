-- As many checks are made as items are stirred.
use Rattle.std.proofs.Common.{arith, ◌≡◌, ℕ, suc, ◌+◌, ◌<◌, ◌&&◌, ◌||◌, Bool, true, false, not, cond, if◌then◌else◌, List, [], ◌∷◌, length, map, Option, None, Some, is_some, inl, inr, refl, sym, ap, ap₂, subst, ◌∙◌, length-append, true≢false}
use Rattle.std.specs.Prelude.{count_by}
use Rattle.std.specs.List.{enumerate_from, flat_map}
use Rattle.std.specs.Option.{IsSome}
use Rattle.std.proofs.lemmas.List.Sums.{sum_by-cons}
use Rattle.snl_grammar.specs.Outcome.{parsed_by, sound_tree}
use Rattle.snl_summary.specs.declared.summary.Outline.{Outline}
use Rattle.snl_views.specs.SameView.{same_view}
use Rattle.snl_item_check.specs.declared.findings.Checked.{Checked}
use Rattle.snl_kept.specs.declared.entries.Entry.{Entry}
use Rattle.snl_kept.specs.declared.ways.whole.recheck.KeptItems.{KeptItems}
use Rattle.snl_kept.specs.declared.plan.NewCheck.{NewCheck}
use Rattle.snl_kept.specs.Checks.{check_by}
use Rattle.snl_kept.specs.Entries.{entry_by}
use Rattle.snl_kept.specs.NewChecks.{is_rechecked, made_at, made_for, number_before, sees_as_before}
use Rattle.snl_kept.specs.Stirred.{is_fresh, old_number}
use Rattle.snl_kept.proofs.FreshNumbers.{IsNumbered}
use Rattle.snl_kept.proofs.Rechecks.{Spelled, rechecked_sound}

module _ (ss ts : List Outline) (kept : KeptItems) (ends fresh : List ℕ) (before count : ℕ) where
  -- an item of the new text is stirred
  abbrev stirred_here : ℕ × Entry → Bool
  stirred_here (i, entry) =
      is_some (sound_tree entry.parsed) && (is_fresh ends fresh i || not (same_view ss (old_number before count (length ends) i) ts i entry.summary))

  stirred_one : (n : ℕ) (x : Spelled) → IsNumbered ends fresh before count n (number_before kept n) → is_rechecked ss ts kept (n, x) ≡ stirred_here (n, entry_by x)
  unfolding IsNumbered
  stirred_one n x h =
      let sound : Bool = is_some (sound_tree (parsed_by x)) in
      let old : ℕ = old_number before count (length ends) n in
      elim h [
        | inl f ↦
            ap (λ (o : Option ℕ). sound && not (sees_as_before ss o ts n (entry_by x).summary)) f.1
            ∙ ap (λ (b : Bool). sound && (b || not (same_view ss old ts n (entry_by x).summary))) (sym f.0)
        | inr k ↦
            ap (λ (o : Option ℕ). sound && not (sees_as_before ss o ts n (entry_by x).summary)) k.1
            ∙ ap (λ (b : Bool). sound && (b || not (same_view ss old ts n (entry_by x).summary))) (sym k.0)
      ]

  made_one : (b : Bool) (o : Option Checked) (n : ℕ) → (b ≡ true → IsSome o) → length (if b then made_at n o else []) ≡ cond b 1 0
  made_one true (Some c) n some = refl
  made_one true None n some = absurd (true≢false (sym (some refl)))
  made_one false o n some = refl

  pub made_count : (n : ℕ) (xs : List Spelled) → ((k : ℕ) → k < length xs → IsNumbered ends fresh before count (n + k) (number_before kept (n + k)))
      → length (flat_map (made_for ss ts kept) (enumerate_from n xs)) ≡ count_by stirred_here (enumerate_from n (map entry_by xs))
  made_count n [] numbered = refl
  made_count n (x ∷ xs) numbered =
      let here : List NewCheck = made_for ss ts kept (n, x) in
      let rest : List NewCheck = flat_map (made_for ss ts kept) (enumerate_from (n + 1) xs) in
      let first : IsNumbered ends fresh before count n (number_before kept n) = at n 0 (omega arith) (numbered 0 (omega arith)) in
      let one : length here ≡ cond (stirred_here (n, entry_by x)) 1 0 =
      made_one (is_rechecked ss ts kept (n, x)) (check_by ts n x) n (rechecked_sound ss ts kept n x) ∙ ap (λ (b : Bool). cond b 1 0) (stirred_one n x first) in
      let more = made_count (n + 1) xs (λ k lt. at (n + 1 + k) (suc k) (omega arith) (numbered (suc k) (omega (arith, lt)))) in
      length-append here rest ∙ ap₂ (λ (a b : ℕ). a + b) one more
      ∙ sym (sum_by-cons (λ (p : ℕ × Entry). cond (stirred_here p) 1 0) (n, entry_by x) (enumerate_from (n + 1) (map entry_by xs)))
    where
      at : (m k : ℕ) → n + k ≡ m → IsNumbered ends fresh before count (n + k) (number_before kept (n + k)) → IsNumbered ends fresh before count m (number_before kept m)
      at m k e h = subst (λ (i : ℕ). IsNumbered ends fresh before count i (number_before kept i)) e h
