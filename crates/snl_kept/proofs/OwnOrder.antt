-- Findings in order, without some that are taken out.
use Rattle.std.proofs.Common.{◌≡◌, ℕ, ◌+◌, Bool, true, false, cond, if◌then◌else◌, List, [], ◌∷◌, map, refl, ap, sym, ◌∙◌}
use Rattle.std.specs.Ordering.{is_eq}
use Rattle.std.specs.declared.cmp.Ordering.{Ordering}
use Rattle.std.specs.declared.cmp.Ordering.TheVariants.{Less, Equal, Greater}
use Rattle.snl_codes.specs.Codes.{is_error}
use Rattle.snl_kept.specs.declared.found.findings.Finding.{Finding}
use Rattle.snl_kept.specs.Diagnostics.{diagnostic, diagnostics_of, shown, shown_if}
use Rattle.snl_kept.specs.Order.{in_order, order_of}
use Rattle.snl_kept.specs.OwnFindings.{is_same, taken_out, without}
use Rattle.snl_kept.specs.Shifted.{finding_of}
use Rattle.snl_kept.proofs.OwnElements.{all_taken, taken, total_all_taken, total_filter}
use Rattle.snl_kept.proofs.Ranks.{one_that_ties, ties_itself}
use Rattle.snl_kept.proofs.Sorting.{total}

same_is : (x y : Finding) → is_same x y ≡ true → x ≡ y
same_is x y h = one_that_ties x y (by (order_of x y) h)
  where
    by : (r : Ordering) → is_eq r ≡ true → r ≡ Equal
    by Less e = cc
    by Equal e = refl
    by Greater e = cc

same_itself : (x : Finding) → is_same x x ≡ true
same_itself x = ap is_eq (ties_itself x)

taken_is : (x : Finding) (ys : List Finding) → taken is_same same_is same_itself x ys ≡ taken_out x ys
taken_is x [] = refl
taken_is x (y ∷ ys) = ap (λ (l : List Finding). cond (is_same x y) ys (y ∷ l)) (taken_is x ys)

without_is : (xs ys : List Finding) → all_taken is_same same_is same_itself xs ys ≡ without xs ys
without_is [] ys = refl
without_is (x ∷ xs) ys = ap (all_taken is_same same_is same_itself xs) (taken_is x ys) ∙ without_is xs (taken_out x ys)

-- what is left of findings when some of them are taken out are the others
pub total_without : (xs ys zs : List Finding) → ((f : Finding → ℕ) → total f ys ≡ total f xs + total f zs) → (f : Finding → ℕ) → total f (without xs ys) ≡ total f zs
total_without xs ys zs sums f = ap (total f) (sym (without_is xs ys)) ∙ total_all_taken is_same same_is same_itself xs ys zs sums f

-- what a finding counts for, where warnings are shown or not
abbrev pub seen : Bool → (Finding → ℕ) → Finding → ℕ
seen b f x = if b then f x else cond (is_error x.code) (f x) 0

pub total_shown : (b : Bool) (f : Finding → ℕ) (xs : List Finding) → total f (shown_if b xs) ≡ total (seen b f) xs
total_shown true f xs = refl
total_shown false f xs = total_filter f (λ (x : Finding). is_error x.code) xs

findings_told : (text : List ℕ) (xs : List Finding) → map finding_of (map (diagnostic text) xs) ≡ xs
findings_told text [] = refl
findings_told text (x ∷ xs) = ap (λ (l : List Finding). x ∷ l) (findings_told text xs)

pub diagnostics_told : (text : List ℕ) → map finding_of (diagnostics_of text) ≡ in_order (shown text)
unfolding diagnostics_of
diagnostics_told text = findings_told text (in_order (shown text))
