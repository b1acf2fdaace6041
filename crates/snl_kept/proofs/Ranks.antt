-- The order of findings is total, and only equal ones tie in it.
use Rattle.std.proofs.Common.{arith, ◌≡◌, ℕ, ◌<◌, ◌≤◌, length, get_or, map, true, false, cond, List, [], ◌∷◌, Option, Some, refl, ap, sym, ◌∙◌}
use Rattle.std.specs.Cmp.{IsStrictWeakOrder, IsTotalOrder}
use Rattle.std.specs.Cmp.Lexicographic.{slice_cmp}
use Rattle.std.specs.FinMap.{nat_cmp-IsAntisymmetric, slice_cmp-IsAntisymmetric}
use Rattle.std.specs.List.{find}
use Rattle.std.specs.Str.{bytes_eq}
use Rattle.std.specs.List.Sorted.{IsNonDecreasing, IsPermutation, IsSortedBy}
use Rattle.std.specs.Ordering.{is_lt, nat_cmp, ordering_reverse, ordering_then}
use Rattle.std.specs.declared.cmp.Ordering.{Ordering}
use Rattle.std.specs.declared.cmp.Ordering.TheVariants.{Less, Equal, Greater}
use Rattle.std.proofs.lemmas.Cmp.{nat_cmp_total, nat_list_cmp_total, on_total, ranked, then_total}
use Rattle.std.proofs.lemmas.List.Sorted.{ranks_by, sorted_far, sum_by-IsPermutation}
use Rattle.std.proofs.lemmas.List.{get_or-map, length-map}
use Rattle.snl_codes.specs.declared.code.Code.{Code}
use Rattle.snl_codes.specs.declared.code.Code.TheVariants.{E01}
use Rattle.snl_kept.specs.declared.found.findings.Finding.{Finding}
use Rattle.snl_codes.specs.Codes.{all_codes, name_of}
use Rattle.snl_kept.specs.Order.{goes_before, in_order, order_of, put_in_order}
use Rattle.snl_kept.proofs.Sorting.{all_put, put, same_put, sorted_is, total, total_all}

order_total : IsTotalOrder order_of
order_total =
    then_total (on_total (λ x. x.offset) nat_cmp_total)
    (then_total (on_total (λ x. name_of x.code) nat_list_cmp_total) (on_total (λ x. x.subject) nat_cmp_total))

pub ranks : IsStrictWeakOrder goes_before
ranks = ranks_by order_total (λ x. x)

-- neither of two comes first only where they tie
ties : (x y : Finding) → goes_before x y ≡ false → goes_before y x ≡ false → order_of x y ≡ Equal
ties x y h k =
    let go : (r s : Ordering) → r ≡ ordering_reverse s → is_lt r ≡ false → is_lt s ≡ false → r ≡ Equal =
    λ r s. elim s as (λ s. r ≡ ordering_reverse s → is_lt r ≡ false → is_lt s ≡ false → r ≡ Equal) [
      | Less ↦ λ e a b. cc
      | Equal ↦ λ e a b. e
      | Greater ↦ λ e a b. let l : is_lt r ≡ true = ap is_lt e in cc
    ] in
    go (order_of x y) (order_of y x) (order_total.antisymm x y) h k

pub both_tie : (r s : Ordering) → ordering_then r s ≡ Equal → (r ≡ Equal) × (s ≡ Equal)
both_tie Less s h = cc
both_tie Equal s h = (refl, h)
both_tie Greater s h = cc

-- the code that has a name
abbrev code_named : List ℕ → Option Code
code_named name = find (λ c. bytes_eq (name_of c) name) all_codes

found_by_name : (c : Code) → code_named (name_of c) ≡ Some c
unfolding name_of
found_by_name E01 = refl
found_by_name _ = refl

pub one_code : (c d : Code) → name_of c ≡ name_of d → c ≡ d
one_code c d h =
    let e : Some c ≡ Some d = sym (found_by_name c) ∙ ap code_named h ∙ found_by_name d in
    cc

one_finding : (a b : Finding) → a.offset ≡ b.offset → a.code ≡ b.code → a.subject ≡ b.subject → a ≡ b
one_finding a b h k m =
    let offset : a ≡ record { offset = b.offset; code = a.code; subject = a.subject } = ap (λ n. record { offset = n; code = a.code; subject = a.subject }) h in
    let code : a ≡ record { offset = b.offset; code = b.code; subject = a.subject } = offset ∙ ap (λ c. record { offset = b.offset; code = c; subject = a.subject }) k in
    code ∙ ap (λ n. record { offset = b.offset; code = b.code; subject = n }) m

-- findings that tie are one, and each ties with itself
pub one_that_ties : (x y : Finding) → order_of x y ≡ Equal → x ≡ y
one_that_ties x y h =
    let offsets = both_tie (nat_cmp x.offset y.offset) (ordering_then (slice_cmp nat_cmp (name_of x.code) (name_of y.code)) (nat_cmp x.subject y.subject)) h in
    let names = both_tie (slice_cmp nat_cmp (name_of x.code) (name_of y.code)) (nat_cmp x.subject y.subject) offsets.1 in
    one_finding x y
    (nat_cmp-IsAntisymmetric x.offset y.offset offsets.0)
    (one_code x.code y.code (slice_cmp-IsAntisymmetric nat_cmp-IsAntisymmetric (name_of x.code) (name_of y.code) names.0))
    (nat_cmp-IsAntisymmetric x.subject y.subject names.1)

pub ties_itself : (x : Finding) → order_of x x ≡ Equal
ties_itself x = by (order_of x x) (order_total.antisymm x x)
  where
    by : (r : Ordering) → r ≡ ordering_reverse r → r ≡ Equal
    by Less e = cc
    by Equal e = refl
    by Greater e = cc

pub same_finding : (x y : Finding) → goes_before x y ≡ false → goes_before y x ≡ false → x ≡ y
same_finding x y h k = one_that_ties x y (ties x y h k)

put_is : (x : Finding) (ys : List Finding) → put goes_before ranks same_finding x ys ≡ put_in_order x ys
put_is x [] = refl
put_is x (y ∷ ys) = ap (λ l. cond (goes_before y x) (y ∷ l) (x ∷ y ∷ ys)) (put_is x ys)

pub all_put_is : (xs : List Finding) → all_put goes_before ranks same_finding xs ≡ in_order xs
all_put_is [] = refl
all_put_is (x ∷ xs) = ap (put goes_before ranks same_finding x) (all_put_is xs) ∙ put_is x (in_order xs)

-- findings in order have the elements that they had, and those with the same elements are in one
-- order
pub total_in_order : (f : Finding → ℕ) (xs : List Finding) → total f (in_order xs) ≡ total f xs
total_in_order f xs = ap (total f) (sym (all_put_is xs)) ∙ total_all goes_before ranks same_finding f xs

pub one_order : (xs ys : List Finding) → ((f : Finding → ℕ) → total f xs ≡ total f ys) → in_order xs ≡ in_order ys
one_order xs ys sums = sym (all_put_is xs) ∙ same_put goes_before ranks same_finding xs ys sums ∙ all_put_is ys

-- findings that are sorted are those in order
pub sorted_in_order : (xs ys : List Finding) → IsPermutation xs ys → IsSortedBy goes_before ys → ys ≡ in_order xs
sorted_in_order xs ys moved up = sorted_is goes_before ranks same_finding xs ys (λ f. sum_by-IsPermutation f xs ys moved) up ∙ all_put_is xs

no_less : (a b : ℕ) (r s : Ordering) → r ≡ nat_cmp a b → is_lt (ordering_then r s) ≡ false → b ≤ a
no_less a b Less s e h = cc
no_less a b Equal s e h = let same : a ≡ b = ranked a b Equal e in omega arith
no_less a b Greater s e h = let more : b < a = ranked a b Greater e in omega arith

-- the offsets of findings that are sorted never fall
pub offsets_rise : (xs : List Finding) → IsSortedBy goes_before xs → IsNonDecreasing (map (λ x. x.offset) xs)
offsets_rise xs up = λ i j d order within.
    let some : Finding = record { offset = 0; code = E01; subject = 0 } in
    let inside : j < length xs = omega (arith, within, length-map xs (λ x. x.offset)) in
    let first : i < length xs = omega arith in
    let y = get_or xs j some in
    let x = get_or xs i some in
    let rises : x.offset ≤ y.offset =
    no_less y.offset x.offset (nat_cmp y.offset x.offset) _ refl (sorted_far goes_before ranks xs up i j some order inside) in
    omega (arith, rises, get_or-map (λ z. z.offset) xs i some d first, get_or-map (λ z. z.offset) xs j some d inside)

pub no_sooner : (r s t : Ordering) → is_lt (ordering_then r (ordering_then s t)) ≡ false → is_lt (ordering_then r s) ≡ false
no_sooner Less s t h = h
no_sooner Equal Less t h = h
no_sooner Equal Equal t h = refl
no_sooner Equal Greater t h = refl
no_sooner Greater s t h = refl
