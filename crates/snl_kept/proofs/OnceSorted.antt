-- Where no offset and code occur twice in what is found in a text, its diagnostics rise by offset
-- and code.
use Rattle.std.proofs.Common.{◌≡◌, ℕ, Bool, true, false, if◌then◌else◌, List, [], ◌∷◌, map, filter, refl, sym, subst}
use Rattle.std.specs.Cmp.{IsTotalOrder}
use Rattle.std.specs.Cmp.Lexicographic.{slice_cmp}
use Rattle.std.specs.FinMap.{nat_cmp-IsAntisymmetric, slice_cmp-IsAntisymmetric}
use Rattle.std.specs.List.{AllByRecursion as Each, AllPairs}
use Rattle.std.specs.Ordering.{is_lt, nat_cmp, ordering_reverse, ordering_then}
use Rattle.std.specs.declared.cmp.Ordering.{Ordering}
use Rattle.std.specs.declared.cmp.Ordering.TheVariants.{Less, Equal, Greater}
use Rattle.std.proofs.lemmas.Bool.{false≢true}
use Rattle.std.proofs.lemmas.Cmp.{nat_cmp_total, nat_list_cmp_total, on_total, then_total}
use Rattle.snl_codes.specs.Codes.{is_error, name_of}
use Rattle.snl_kept.specs.declared.found.findings.Finding.{Finding}
use Rattle.snl_kept.specs.Diagnostics.{diagnostic, diagnostics_of, found, shown, stands_before}
use Rattle.snl_kept.specs.OnceFound.{DifferInPlace}
use Rattle.snl_kept.specs.Order.{goes_before, in_order, put_in_order}
use Rattle.snl_kept.specs.Program.{items_of}
use Rattle.snl_kept.specs.Warnings.{shows_warnings}
use Rattle.snl_kept.proofs.Ranks.{all_put_is, both_tie, no_sooner, one_code, ranks, same_finding}
use Rattle.snl_kept.proofs.Sorting.{Ordered, ordered_all}
use Rattle.snl_facts.specs.Each.{two_weaker, two_both, two_map, two_filter, pairs_from_two, EachTwo}
use Rattle.snl_kept.specs.OrderLaws.{each_put, each_in_order}

-- ---- put in order

once_put : (x : Finding) (ys : List Finding) → Each (DifferInPlace x) ys → EachTwo DifferInPlace ys → EachTwo DifferInPlace (put_in_order x ys)
once_put x [] h two = (tt, tt)
once_put x (y ∷ ys) h two = by (goes_before y x) (once_put x ys h.1 two.1)
  where
    by : (b : Bool) → EachTwo DifferInPlace (put_in_order x ys) → EachTwo DifferInPlace (if b then y ∷ put_in_order x ys else x ∷ y ∷ ys)
    by true rest = (each_put (DifferInPlace y) x ys (λ o c. h.0 (sym o) (sym c)) two.0, rest)
    by false rest = (h, two)

once_in_order : (xs : List Finding) → EachTwo DifferInPlace xs → EachTwo DifferInPlace (in_order xs)
once_in_order [] two = tt
once_in_order (x ∷ xs) two = once_put x (in_order xs) (each_in_order (DifferInPlace x) xs two.0) (once_in_order xs two.1)

abbrev NotAfter : Finding → Finding → Type 0
NotAfter x y = goes_before y x ≡ false

from_ordered : (xs : List Finding) → Ordered goes_before ranks same_finding xs → EachTwo NotAfter xs
from_ordered [] h = tt
from_ordered (x ∷ xs) h = (h.0, from_ordered xs h.1)

ordered : (xs : List Finding) → EachTwo NotAfter (in_order xs)
ordered xs = from_ordered (in_order xs) (subst (Ordered goes_before ranks same_finding) (all_put_is xs) (ordered_all goes_before ranks same_finding xs))

-- ---- by offset and code

abbrev place_order : Finding → Finding → Ordering
place_order x y = ordering_then (nat_cmp x.offset y.offset) (slice_cmp nat_cmp (name_of x.code) (name_of y.code))

place_total : IsTotalOrder place_order
place_total = then_total (on_total (λ x. x.offset) nat_cmp_total) (on_total (λ x. name_of x.code) nat_list_cmp_total)

rises : (x y : Finding) → NotAfter x y → DifferInPlace x y → is_lt (place_order x y) ≡ true
rises x y h differ =
    by (place_order x y) (place_order y x) refl (place_total.antisymm x y)
    (no_sooner (nat_cmp y.offset x.offset) (slice_cmp nat_cmp (name_of y.code) (name_of x.code)) (nat_cmp y.subject x.subject) h)
  where
    tie : place_order x y ≡ Equal → ⊥
    tie e =
        let parts = both_tie (nat_cmp x.offset y.offset) (slice_cmp nat_cmp (name_of x.code) (name_of y.code)) e in
        differ (nat_cmp-IsAntisymmetric x.offset y.offset parts.0) (one_code x.code y.code (slice_cmp-IsAntisymmetric nat_cmp-IsAntisymmetric (name_of x.code) (name_of y.code) parts.1))

    by : (r s : Ordering) → place_order x y ≡ r → r ≡ ordering_reverse s → is_lt s ≡ false → is_lt r ≡ true
    by Less s e turned l = refl
    by Equal s e turned l = absurd (tie e)
    by Greater Less e turned l = absurd (false≢true (sym l))
    by Greater Equal e turned l = absurd cc
    by Greater Greater e turned l = absurd cc

pub shown_once : (text : List ℕ) → EachTwo DifferInPlace (found text) → EachTwo DifferInPlace (shown text)
unfolding shown
shown_once text two = by (shows_warnings text (items_of text))
  where
    by : (b : Bool) → EachTwo DifferInPlace (if b then found text else filter (λ x. is_error x.code) (found text))
    by true = two
    by false = two_filter DifferInPlace (λ x. is_error x.code) (found text) two

pub diagnostics_rise : (text : List ℕ) → EachTwo DifferInPlace (found text) → AllPairs (λ x y. stands_before x y ≡ true) (diagnostics_of text)
unfolding diagnostics_of
diagnostics_rise text two =
    let xs = in_order (shown text) in
    pairs_from_two (λ x y. stands_before x y ≡ true) (map (diagnostic text) xs)
    (two_map (λ x y. stands_before x y ≡ true) (diagnostic text) xs
    (two_weaker (λ x y. NotAfter x y × DifferInPlace x y) (λ x y. is_lt (place_order x y) ≡ true) (λ x y h. rises x y h.0 h.1) xs
    (two_both NotAfter DifferInPlace xs (ordered (shown text)) (once_in_order (shown text) (shown_once text two)))))
