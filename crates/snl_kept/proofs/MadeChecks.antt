-- What an edit makes of the checks of a text.
use Rattle.std.proofs.Common.{arith, ◌≡◌, ℕ, zero, suc, ◌+◌, ◌-◌, ◌≤◌, ◌⊎◌, true, List, [], ◌∷◌, ◌++◌, length, take, drop, Option, Some, refl, sym, ap, ap₂, subst, ◌∙◌}
use Rattle.std.specs.Prelude.{count_by}
use Rattle.std.specs.List.{enumerate_from, flat_map}
use Rattle.std.proofs.lemmas.List.{length-take-le}
use Rattle.snl_cut.specs.Cut.{Rises, ends_below, joined, members}
use Rattle.snl_items.specs.declared.tokens.TokenEdit.{TokenEdit}
use Rattle.snl_items.specs.Fresh.{fresh_items_of, token_edit_of}
use Rattle.snl_lex.specs.Edit.{Edit}
use Rattle.snl_items.specs.Items.{item_ends, spelled_items, spellings}
use Rattle.snl_summary.specs.declared.summary.Outline.{Outline}
use Rattle.snl_views.specs.SameView.{same_view}
use Rattle.snl_item_check.specs.declared.findings.Checked.{Checked}
use Rattle.snl_kept.specs.Checks.{check_by, checks_from, checks_of, outlines_in}
use Rattle.snl_kept.specs.Entries.{entries_of, entry_by}
use Rattle.snl_kept.specs.NewChecks.{AreChecksMade, kept_of, made_checks, made_for, nones, number_before, put}
use Rattle.snl_kept.specs.Stirred.{is_stirred, stirred_of}
use Rattle.snl_kept.proofs.FreshNumbers.{IsNumbered, number_at_back, number_at_front, number_of_made, numbered}
use Rattle.snl_kept.proofs.Rechecks.{Spelled, fits_append, fits_kept, fits_made, put_gives}
use Rattle.snl_kept.proofs.Stirs.{made_count}
use Rattle.snl_cut.specs.CutLaws.{length_members}

checks_take : (ss : List Outline) (j n : ℕ) (xs : List Spelled) → take n (checks_from ss j xs) ≡ checks_from ss j (take n xs)
checks_take ss j zero xs = refl
checks_take ss j (suc n) [] = refl
checks_take ss j (suc n) (x ∷ xs) = ap (λ (l : List (Option Checked)). check_by ss j x ∷ l) (checks_take ss (j + 1) n xs)

checks_drop : (ss : List Outline) (j n : ℕ) (xs : List Spelled) → drop n (checks_from ss j xs) ≡ checks_from ss (j + n) (drop n xs)
checks_drop ss j zero xs = ap (λ (i : ℕ). checks_from ss i xs) (omega arith)
checks_drop ss j (suc n) [] = refl
checks_drop ss j (suc n) (x ∷ xs) = checks_drop ss (j + 1) n xs ∙ ap (λ (i : ℕ). checks_from ss i (drop n xs)) (omega arith)

checks_count : (ss : List Outline) (j : ℕ) (xs : List Spelled) → length (checks_from ss j xs) ≡ length xs
checks_count ss j [] = refl
checks_count ss j (x ∷ xs) = ap suc (checks_count ss (j + 1) xs)

pub count_of_checks : (text : List ℕ) → length (checks_of text) ≡ length (item_ends text)
count_of_checks text = checks_count (outlines_in text) 0 (spelled_items text) ∙ length_members (spellings text) 0 (item_ends text)

-- so many items are kept at the front and at the back; `made` are those between
module _ (old text : List ℕ) (old_stop new_stop front from : ℕ) (made : List ℕ) (back before : ℕ) (order : front + back ≤ length (item_ends old))
    (ends_are : item_ends text ≡ joined (item_ends old) old_stop new_stop front made back) (rise : Rises 0 (item_ends text))
    (kept : (front ≡ before) ⊎ ((front ≡ length (item_ends old)) × (made ≡ [])))
    (items_are : spelled_items text ≡ take front (spelled_items old) ++ (members (spellings text) from made ++ drop (length (item_ends old) - back) (spelled_items old)))
    (stays : (j i : ℕ) (x : Spelled) → same_view (outlines_in old) j (outlines_in text) i (entry_by x).summary ≡ true → check_by (outlines_in old) j x ≡ check_by (outlines_in text) i x) where
  abbrev all : ℕ
  all = length (item_ends old)

  abbrev olds : List Spelled
  olds = spelled_items old

  abbrev news : List Spelled
  news = members (spellings text) from made

  olds_count : length olds ≡ all
  olds_count = length_members (spellings old) 0 (item_ends old)

  news_count : length news ≡ length made
  news_count = length_members (spellings text) from made

  front_count : length (take front olds) ≡ front
  front_count = length-take-le front olds (omega (arith, olds_count))

  -- the checks as they are before the made ones are in their places
  abbrev base : List (Option Checked)
  base = checks_from (outlines_in old) 0 (take front olds) ++ (nones made ++ checks_from (outlines_in old) (all - back) (drop (all - back) olds))

  put_base : put base (flat_map (made_for (outlines_in old) (outlines_in text) (kept_of all front made back)) (enumerate_from 0 (take front olds ++ (news ++ drop (all - back) olds))))
      ≡ checks_from (outlines_in text) 0 (take front olds ++ (news ++ drop (all - back) olds))
  put_base =
      let ss = outlines_in old in
      let ts = outlines_in text in
      let k = kept_of all front made back in
      put_gives ss ts k [] base 0 (take front olds ++ (news ++ drop (all - back) olds)) refl
      (fits_append ss ts k 0 front (checks_from ss 0 (take front olds)) (nones made ++ checks_from ss (all - back) (drop (all - back) olds)) (take front olds) (news ++ drop (all - back) olds) (omega (arith, front_count))
      (fits_kept ss ts k stays 0 0 (take front olds) (λ i lt. ap (number_before k) (omega arith) ∙ number_at_front all front made back i (omega (arith, lt, front_count)) ∙ ap Some (omega arith)))
      (fits_append ss ts k front (front + length made) (nones made) (checks_from ss (all - back) (drop (all - back) olds)) news (drop (all - back) olds) (omega (arith, news_count))
      (fits_made ss ts k front made news (sym news_count) (λ i lt. number_of_made all front made back (front + i) (omega arith) (omega (arith, lt, news_count))))
      (fits_kept ss ts k stays (all - back) (front + length made) (drop (all - back) olds)
      (λ i lt. number_at_back all front made back (front + length made + i) (omega arith) ∙ ap Some (omega arith)))))

  base_is : take front (checks_of old) ++ (nones made ++ drop (length (checks_of old) - back) (checks_of old)) ≡ base
  base_is =
      ap₂ (λ (x y : List (Option Checked)). x ++ (nones made ++ y)) (checks_take (outlines_in old) 0 front olds)
      (ap (λ (n : ℕ). drop (n - back) (checks_of old)) (count_of_checks old)
      ∙ checks_drop (outlines_in old) 0 (all - back) olds
      ∙ ap (λ (i : ℕ). checks_from (outlines_in old) i (drop (all - back) olds)) (omega arith))

  pub checks_made : AreChecksMade old text front (nones made) back (made_checks (outlines_in old) (outlines_in text) (kept_of all front made back) (spelled_items text))
  checks_made =
      ap (checks_from (outlines_in text) 0) items_are
      ∙ sym put_base
      ∙ ap (λ (xs : List Spelled). put base (made_checks (outlines_in old) (outlines_in text) (kept_of all front made back) xs)) (sym items_are)
      ∙ ap (λ (b : List (Option Checked)). put b (made_checks (outlines_in old) (outlines_in text) (kept_of all front made back) (spelled_items text))) (sym base_is)

  pub made_are_stirred : length (made_checks (outlines_in old) (outlines_in text) (kept_of all front made back) (spelled_items text))
      ≡ count_by (is_stirred old text before made) (enumerate_from 0 (entries_of text))
  made_are_stirred =
      made_count (outlines_in old) (outlines_in text) (kept_of all front made back) (item_ends text) made before all 0 (spelled_items text)
      (λ i lt. at i (numbered (item_ends old) (item_ends text) made old_stop new_stop front back order ends_are before rise kept i (omega (arith, lt, length_members (spellings text) 0 (item_ends text)))))
    where
      at : (i : ℕ) → IsNumbered (item_ends text) made before all i (number_before (kept_of all front made back) i) → IsNumbered (item_ends text) made before all (0 + i) (number_before (kept_of all front made back) (0 + i))
      at i h = subst (λ (n : ℕ). IsNumbered (item_ends text) made before all n (number_before (kept_of all front made back) n)) (omega arith) h

pub stirred_told : (edit : Edit) (tokens : TokenEdit) (fresh : List ℕ) → tokens ≡ token_edit_of edit
    → fresh ≡ fresh_items_of edit
    → count_by (is_stirred edit.old edit.text (ends_below tokens.start (item_ends edit.old)) fresh) (enumerate_from 0 (entries_of edit.text)) ≡ stirred_of edit
unfolding stirred_of
stirred_told edit tokens fresh tokens_are fresh_is =
    ap₂ (λ (e : TokenEdit) (f : List ℕ). count_by (is_stirred edit.old edit.text (ends_below e.start (item_ends edit.old)) f) (enumerate_from 0 (entries_of edit.text))) tokens_are fresh_is
