-- Findings that differ, by their items and by the families of their codes: those of order, of
-- names, and of clauses.
use Rattle.std.proofs.Common.{◌≡◌, ◌≢◌, ℕ, ◌<◌, ◌≤◌, if◌then◌else◌, List, ◌++◌, ap, arith}
use Rattle.std.specs.List.{AllByRecursion as Each}
use Rattle.snl_facts.specs.Each.{EachTwo, each_weaker, two_append}
use Rattle.snl_codes.specs.declared.code.Code.{Code}
use Rattle.snl_codes.specs.declared.code.Code.TheVariants.{E03, E04, E05, E06, E07, E08, E09, E14}
use Rattle.snl_codes.specs.Codes.{is_link_code}
use Rattle.snl_scope.specs.declared.facts.LinkFault.{LinkFault}

-- A number for each of the codes of order and of names. Those at clauses have two: one at flags, one
-- at variables. The links have no others.
abbrev pub rank : Code → ℕ
rank E03 = 3
rank E04 = 4
rank E05 = 5
rank E06 = 6
rank E07 = 7
rank E08 = 8
rank E09 = 9
rank E14 = 11
rank c = if is_link_code c then 10 else 12

abbrev pub Differ : LinkFault → LinkFault → Type 0
Differ f g = f ≢ g

pub differ_by_item : (f g : LinkFault) → f.item ≢ g.item → Differ f g
differ_by_item f g h = λ e. h (ap (λ x. x.item) e)

pub differ_by_token : (f g : LinkFault) → f.token ≢ g.token → Differ f g
differ_by_token f g h = λ e. h (ap (λ x. x.token) e)

pub differ_by_rank : (f g : LinkFault) → rank f.code ≢ rank g.code → Differ f g
differ_by_rank f g h = λ e. h (ap (λ x. rank x.code) e)

-- The codes of one list are below those of the other.
pub two_by_rank : (n : ℕ) (fs gs : List LinkFault) → Each (λ f. rank f.code < n) fs → EachTwo Differ fs → Each (λ g. n ≤ rank g.code) gs → EachTwo Differ gs → EachTwo Differ (fs ++ gs)
two_by_rank n = two_append Differ (λ f. rank f.code < n) (λ g. n ≤ rank g.code) (λ f g l h. differ_by_rank f g (λ e. omega (arith, l, h, e)))

-- The items of one list are before those of the other.
pub two_by_item : (n : ℕ) (fs gs : List LinkFault) → Each (λ f. f.item < n) fs → EachTwo Differ fs → Each (λ g. n ≤ g.item) gs → EachTwo Differ gs → EachTwo Differ (fs ++ gs)
two_by_item n = two_append Differ (λ f. f.item < n) (λ g. n ≤ g.item) (λ f g l h. differ_by_item f g (λ e. omega (arith, l, h, e)))

-- a list of which each finding has one code
pub rank_under : (n : ℕ) (code : Code) (fs : List LinkFault) → rank code < n → Each (λ f. f.code ≡ code) fs → Each (λ f. rank f.code < n) fs
rank_under n code fs h = each_weaker (λ f. f.code ≡ code) (λ f. rank f.code < n) (λ f e. omega (arith, h, ap rank e)) fs

pub rank_from : (n : ℕ) (code : Code) (fs : List LinkFault) → n ≤ rank code → Each (λ f. f.code ≡ code) fs → Each (λ f. n ≤ rank f.code) fs
rank_from n code fs h = each_weaker (λ f. f.code ≡ code) (λ f. n ≤ rank f.code) (λ f e. omega (arith, h, ap rank e)) fs
