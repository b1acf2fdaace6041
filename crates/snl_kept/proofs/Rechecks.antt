-- The kept checks, with those that an edit makes in their places, are the checks of the new text.
use Rattle.std.proofs.Common.{arith, ◌≡◌, ℕ, zero, suc, ◌+◌, ◌<◌, ◌&&◌, Bool, true, false, not, if◌then◌else◌, List, [], ◌∷◌, ◌++◌, length, set, Option, None, Some, option_map, is_some, refl, sym, ap, subst, ◌∙◌, append_assoc, length-append, true≢false}
use Rattle.std.specs.List.{enumerate_from, flat_map}
use Rattle.std.specs.Option.{IsSome}
use Rattle.snl_lex.specs.declared.piece.Class.{Class}
use Rattle.snl_grammar.specs.Outcome.{parsed_by, sound_tree}
use Rattle.snl_grammar.specs.declared.tree.item.Item.{Item}
use Rattle.snl_summary.specs.SpelledTokens.{bytes_by}
use Rattle.snl_summary.specs.declared.summary.Outline.{Outline}
use Rattle.snl_views.specs.SameView.{same_view}
use Rattle.snl_item_check.specs.declared.findings.Checked.{Checked}
use Rattle.snl_kept.specs.declared.ways.whole.recheck.KeptItems.{KeptItems}
use Rattle.snl_kept.specs.declared.plan.NewCheck.{NewCheck}
use Rattle.snl_kept.specs.Checks.{check_by, checked_by, checks_from}
use Rattle.snl_kept.specs.Entries.{entry_by}
use Rattle.snl_kept.specs.NewChecks.{is_rechecked, made_at, made_for, no_check, nones, number_before, put, sees_as_before}

abbrev pub Spelled : Type 0
Spelled = List (Class × List ℕ)

-- ---- one check in its place

set_here : {X : Type 0} (done : List X) (x y : X) (xs : List X) (n : ℕ) → length done ≡ n → set (done ++ x ∷ xs) n y ≡ done ++ y ∷ xs
set_here [] x y xs zero e = refl
set_here [] x y xs (suc n) e = absurd (omega (arith, e))
set_here (d ∷ done) x y xs zero e = absurd (omega (arith, e))
set_here {X} (d ∷ done) x y xs (suc n) e = ap (λ (l : List X). d ∷ l) (set_here done x y xs n (omega (arith, e)))

put_one : (b : Bool) (o : Option Checked) (done : List (Option Checked)) (c : Option Checked) (cs : List (Option Checked)) (n : ℕ) (more : List NewCheck) → length done ≡ n
    → (b ≡ true → IsSome o) → (b ≡ false → c ≡ o) → put (done ++ c ∷ cs) ((if b then made_at n o else []) ++ more) ≡ put (done ++ o ∷ cs) more
put_one true (Some k) done c cs n more e some same = ap (λ (l : List (Option Checked)). put l more) (set_here done c (Some k) cs n e)
put_one true None done c cs n more e some same = absurd (true≢false (sym (some refl)))
put_one false o done c cs n more e some same = ap (λ (x : Option Checked). put (done ++ x ∷ cs) more) (same refl)

module _ (ss ts : List Outline) (kept : KeptItems) where
  -- What is there before is right where no check is made.
  abbrev pub Fits : ℕ → List (Option Checked) → List Spelled → Type 0
  Fits n [] [] = Unit {0}
  Fits n [] (x ∷ xs) = ⊥
  Fits n (c ∷ cs) [] = ⊥
  Fits n (c ∷ cs) (x ∷ xs) = (is_rechecked ss ts kept (n, x) ≡ false → c ≡ check_by ts n x) × Fits (n + 1) cs xs

  -- a check that is made is of a sound item
  pub rechecked_sound : (n : ℕ) (x : Spelled) → is_rechecked ss ts kept (n, x) ≡ true → IsSome (check_by ts n x)
  rechecked_sound n x = by (sound_tree (parsed_by x)) (not (sees_as_before ss (number_before kept n) ts n (entry_by x).summary))
    where
      by : (o : Option Item) (v : Bool) → (is_some o && v) ≡ true → IsSome (option_map (checked_by ts n (bytes_by x)) o)
      by None v h = h
      by (Some tree) v h = refl

  pub put_gives : (done cs : List (Option Checked)) (n : ℕ) (xs : List Spelled) → length done ≡ n → Fits n cs xs
      → put (done ++ cs) (flat_map (made_for ss ts kept) (enumerate_from n xs)) ≡ done ++ checks_from ts n xs
  put_gives done [] n [] e h = refl
  put_gives done [] n (x ∷ xs) e h = absurd h
  put_gives done (c ∷ cs) n [] e h = absurd h
  put_gives done (c ∷ cs) n (x ∷ xs) e h =
      let check : Option Checked = check_by ts n x in
      let more : List NewCheck = flat_map (made_for ss ts kept) (enumerate_from (n + 1) xs) in
      let longer : length (done ++ check ∷ []) ≡ n + 1 = omega (arith, length-append done (check ∷ []), e) in
      put_one (is_rechecked ss ts kept (n, x)) check done c cs n more e (rechecked_sound n x) h.0
      ∙ ap (λ (l : List (Option Checked)). put l more) (sym (append_assoc done (check ∷ []) cs))
      ∙ put_gives (done ++ check ∷ []) cs (n + 1) xs longer h.1
      ∙ append_assoc done (check ∷ []) (checks_from ts (n + 1) xs)

  pub fits_append : (n m : ℕ) (cs ds : List (Option Checked)) (xs ys : List Spelled) → m ≡ n + length xs → Fits n cs xs → Fits m ds ys → Fits n (cs ++ ds) (xs ++ ys)
  fits_append n m [] ds [] ys e h k = let same : m ≡ n = omega (arith, e) in subst (λ (i : ℕ). Fits i ds ys) same k
  fits_append n m [] ds (x ∷ xs) ys e h k = absurd h
  fits_append n m (c ∷ cs) ds [] ys e h k = absurd h
  fits_append n m (c ∷ cs) ds (x ∷ xs) ys e h k = (h.0, fits_append (n + 1) m cs ds xs ys (omega (arith, e)) h.1 k)

  -- ---- items that are made

  fits_one : (n : ℕ) (x : Spelled) → number_before kept n ≡ None → is_rechecked ss ts kept (n, x) ≡ false → no_check 0 ≡ check_by ts n x
  fits_one n x fresh is =
      by (sound_tree (parsed_by x)) (ap (λ (o : Option ℕ). is_some (sound_tree (parsed_by x)) && not (sees_as_before ss o ts n (entry_by x).summary)) (sym fresh) ∙ is)
    where
      by : (o : Option Item) → (is_some o && true) ≡ false → None ≡ option_map (checked_by ts n (bytes_by x)) o
      by None h = refl
      by (Some tree) h = absurd (true≢false h)

  pub fits_made : (n : ℕ) (ends : List ℕ) (xs : List Spelled) → length ends ≡ length xs → ((k : ℕ) → k < length xs → number_before kept (n + k) ≡ None) → Fits n (nones ends) xs
  fits_made n [] [] e fresh = tt
  fits_made n [] (x ∷ xs) e fresh = absurd (omega (arith, e))
  fits_made n (end ∷ ends) [] e fresh = absurd (omega (arith, e))
  fits_made n (end ∷ ends) (x ∷ xs) e fresh = (
    fits_one n x (ap (number_before kept) (omega arith) ∙ fresh 0 (omega arith)),
    fits_made (n + 1) ends xs (omega (arith, e)) (λ k lt. ap (number_before kept) (omega arith) ∙ fresh (suc k) (omega (arith, lt))),
  )

  -- ---- items that are kept

  module _ (stays : (j i : ℕ) (x : Spelled) → same_view ss j ts i (entry_by x).summary ≡ true → check_by ss j x ≡ check_by ts i x) where
    kept_one : (j n : ℕ) (x : Spelled) → number_before kept n ≡ Some j → is_rechecked ss ts kept (n, x) ≡ false → check_by ss j x ≡ check_by ts n x
    kept_one j n x before is =
        by (sound_tree (parsed_by x)) (same_view ss j ts n (entry_by x).summary)
        (ap (λ (o : Option ℕ). is_some (sound_tree (parsed_by x)) && not (sees_as_before ss o ts n (entry_by x).summary)) (sym before) ∙ is)
        (stays j n x)
      where
        by : (o : Option Item) (v : Bool) → (is_some o && not v) ≡ false → (v ≡ true → option_map (checked_by ss j (bytes_by x)) o ≡ option_map (checked_by ts n (bytes_by x)) o)
            → option_map (checked_by ss j (bytes_by x)) o ≡ option_map (checked_by ts n (bytes_by x)) o
        by None v h k = refl
        by (Some tree) true h k = k refl
        by (Some tree) false h k = absurd (true≢false h)

    pub fits_kept : (j n : ℕ) (xs : List Spelled) → ((k : ℕ) → k < length xs → number_before kept (n + k) ≡ Some (j + k)) → Fits n (checks_from ss j xs) xs
    fits_kept j n [] before = tt
    fits_kept j n (x ∷ xs) before = (
      kept_one j n x (ap (number_before kept) (omega arith) ∙ before 0 (omega arith) ∙ ap Some (omega arith)),
      fits_kept (j + 1) (n + 1) xs (λ k lt. ap (number_before kept) (omega arith) ∙ before (suc k) (omega (arith, lt)) ∙ ap Some (omega arith)),
    )
