-- The checks that are made where one item is made in the place of one, and each of the others sees
-- what it saw: at most its own.
use Rattle.std.proofs.Common.{◌≡◌, ◌≢◌, ◌↔◌, ℕ, suc, ◌+◌, ◌<◌, ◌&&◌, Bool, true, false, not, if◌then◌else◌, IsTrue, List, [], ◌∷◌, ◌++◌, length, slice_get, Option, None, Some, option_map, is_some, refl, ap, ap₂, ◌∙◌, arith}
use Rattle.std.specs.List.{enumerate_from, flat_map}
use Rattle.std.proofs.lemmas.List.{append-nil}
use Rattle.snl_grammar.specs.Outcome.{parsed_by, sound_tree}
use Rattle.snl_grammar.specs.declared.tree.item.Item.{Item}
use Rattle.snl_summary.specs.SpelledTokens.{bytes_by}
use Rattle.snl_scope.specs.View.{view}
use Rattle.snl_summary.specs.declared.summary.Outline.{Outline}
use Rattle.snl_summary.specs.declared.summary.Summary.{Summary}
use Rattle.snl_views.specs.SameView.{same_view}
use Rattle.snl_kept.specs.declared.ways.whole.recheck.KeptItems.{KeptItems}
use Rattle.snl_kept.specs.declared.plan.NewCheck.{NewCheck}
use Rattle.snl_kept.specs.Checks.{check_by, checked_by}
use Rattle.snl_kept.specs.Entries.{entry_by}
use Rattle.snl_kept.specs.NewChecks.{kept_of, made_at, made_checks, made_for, number_before, sees_as_before}
use Rattle.snl_kept.proofs.FreshNumbers.{number_at_back, number_at_front, number_of_made}
use Rattle.snl_kept.proofs.Rechecks.{Spelled}

module _ (views : (ss : List Outline) (i : ℕ) (ts : List Outline) (j : ℕ) (s : Summary) → IsTrue (same_view ss i ts j s) ↔ (view ss i s ≡ view ts j s))
    (ss ts : List Outline) (count k : ℕ) (made : List ℕ) (back : ℕ) (one_made : length made ≡ 1) (one_gone : k + 1 + back ≡ count) where
  abbrev kept : KeptItems
  kept = kept_of count k made back

  before_it : (i : ℕ) → i < k → number_before kept i ≡ Some i
  before_it i lt = number_at_front count k made back i lt

  it : number_before kept k ≡ None
  it = number_of_made count k made back k (omega arith) (omega (arith, one_made))

  after_it : (i : ℕ) → k < i → number_before kept i ≡ Some i
  after_it i lt = number_at_back count k made back i (omega (arith, one_made)) ∙ ap Some (omega (arith, one_made, one_gone))

  -- An item sees what it saw.
  abbrev Sees : ℕ → Spelled → Type 0
  Sees i x = view ss i (entry_by x).summary ≡ view ts i (entry_by x).summary

  -- A kept item has the number that it had, and sees what it saw.
  no_check_for : (i : ℕ) (x : Spelled) → number_before kept i ≡ Some i → Sees i x → made_for ss ts kept (i, x) ≡ []
  no_check_for i x same sees =
      ap (λ (b : Bool). let l : List NewCheck = if b then made_at i (check_by ts i x) else [] in l)
      (ap (λ (o : Option ℕ). is_some (sound_tree (parsed_by x)) && not (sees_as_before ss o ts i (entry_by x).summary)) same
      ∙ ap (λ (v : Bool). is_some (sound_tree (parsed_by x)) && not v) ((views ss i ts i (entry_by x).summary).1 sees)
      ∙ none (is_some (sound_tree (parsed_by x))))
    where
      none : (v : Bool) → v && false ≡ false
      none true = refl
      none false = refl

  -- The made one is checked, if it is sound.
  own_check_for : (x : Spelled) → made_for ss ts kept (k, x) ≡ made_at k (check_by ts k x)
  own_check_for x =
      ap (λ (o : Option ℕ). let l : List NewCheck = if is_some (sound_tree (parsed_by x)) && not (sees_as_before ss o ts k (entry_by x).summary) then made_at k (check_by ts k x) else [] in l) it
      ∙ by (sound_tree (parsed_by x))
    where
      by : (o : Option Item) → (let l : List NewCheck = if is_some o && true then made_at k (option_map (checked_by ts k (bytes_by x)) o) else [] in l) ≡ made_at k (option_map (checked_by ts k (bytes_by x)) o)
      by None = refl
      by (Some tree) = refl

  -- Each of some items, the first of which has a number, but item k.
  abbrev SeeFrom : ℕ → List Spelled → Type 0
  SeeFrom from xs = (i n : ℕ) (x : Spelled) → i ≡ from + n → i ≢ k → slice_get xs n ≡ Some x → Sees i x

  later : (from : ℕ) (x : Spelled) (xs : List Spelled) → SeeFrom from (x ∷ xs) → SeeFrom (from + 1) xs
  later from x xs see i n y at apart got = see i (suc n) y (omega (arith, at)) apart got

  none_after : (from : ℕ) (xs : List Spelled) → k < from → SeeFrom from xs → flat_map (made_for ss ts kept) (enumerate_from from xs) ≡ []
  none_after from [] lt see = refl
  none_after from (x ∷ xs) lt see =
      ap₂ (λ (a b : List NewCheck). a ++ b) (no_check_for from x (after_it from lt) (see from 0 x (omega arith) (λ e. omega (arith, e, lt)) refl))
      (none_after (from + 1) xs (omega (arith, lt)) (later from x xs see))

  walk : (from : ℕ) (front : List Spelled) (x : Spelled) (rest : List Spelled) → from + length front ≡ k → SeeFrom from (front ++ (x ∷ rest))
      → flat_map (made_for ss ts kept) (enumerate_from from (front ++ (x ∷ rest))) ≡ made_at k (check_by ts k x)
  walk from [] x rest there see =
      let here : from ≡ k = omega (arith, there) in
      ap₂ (λ (a b : List NewCheck). a ++ b) (ap (λ (i : ℕ). made_for ss ts kept (i, x)) here) (none_after (from + 1) rest (omega (arith, here)) (later from x rest see))
      ∙ append-nil (made_for ss ts kept (k, x)) ∙ own_check_for x
  walk from (z ∷ front) x rest there see =
      ap₂ (λ (a b : List NewCheck). a ++ b) (no_check_for from z (before_it from (omega (arith, there))) (see from 0 z (omega arith) (λ e. omega (arith, e, there)) refl))
      (walk (from + 1) front x rest (omega (arith, there)) (later from z (front ++ (x ∷ rest)) see))

  pub one_check : (front : List Spelled) (x : Spelled) (rest : List Spelled) → ((i : ℕ) (y : Spelled) → i ≢ k → slice_get (front ++ (x ∷ rest)) i ≡ Some y → Sees i y) → length front ≡ k
      → made_checks ss ts kept (front ++ (x ∷ rest)) ≡ made_at k (check_by ts k x)
  one_check front x rest see there =
      walk 0 front x rest (omega (arith, there)) (λ i n y at apart got. see i y apart (ap (slice_get (front ++ (x ∷ rest))) (number i n at) ∙ got))
    where
      number : (i n : ℕ) → i ≡ 0 + n → i ≡ n
      number i n at = omega (arith, at)
