-- No finding of the order of items comes twice.
use Rattle.std.proofs.Common.{◌≡◌, ℕ, ◌<◌, ◌≤◌, Bool, true, false, not, ◌++◌, length, arith, refl}
use Rattle.std.specs.List.{AllByRecursion as Each}
use Rattle.snl_scope.specs.BelowLaws.{each_below, each_passing, two_below}
use Rattle.snl_facts.specs.Each.{EachTwo, each_append, each_map, two_map, two_weaker}
use Rattle.snl_codes.specs.declared.code.Code.{Code}
use Rattle.snl_codes.specs.declared.code.Code.TheVariants.{E03, E04, E05, E06}
use Rattle.snl_scope.specs.Below.{all_below, any_below}
use Rattle.snl_scope.specs.LinkedItems.{LinkedItems}
use Rattle.snl_scope.specs.Order.{at_item, at_items_where, found_if, header_faults, if_missing, is_misplaced, is_program_item, is_repeated_header, is_ss_item, is_stateless, is_unmatched, misplaced_items, missing_states, order_faults, unmatched_braces}
use Rattle.snl_scope.proofs.Families.{Differ, differ_by_item, rank, rank_from, rank_under, two_by_item, two_by_rank}

module _ (code : Code) where
  -- each of the findings has the code
  coded_items : (test : ℕ → Bool) (n : ℕ) → Each (λ f. f.code ≡ code) (at_items_where code test n)
  coded_items test n = each_map (λ f. f.code ≡ code) (at_item code) (all_below test n) (each_passing (λ i. code ≡ code) test n (λ i is. refl))

  coded_if : (b : Bool) (n : ℕ) → Each (λ f. f.code ≡ code) (found_if b code n)
  coded_if true n = (refl, tt)
  coded_if false n = tt

  -- and none comes twice
  once_at_items : (test : ℕ → Bool) (n : ℕ) → EachTwo Differ (at_items_where code test n)
  once_at_items test n =
      two_map Differ (at_item code) (all_below test n)
      (two_weaker (λ a b. a < b) (λ a b. Differ (at_item code a) (at_item code b)) (λ a b l. differ_by_item (at_item code a) (at_item code b) (λ e. omega (arith, l, e))) (all_below test n) (two_below test n))

  within_items : (test : ℕ → Bool) (n : ℕ) → Each (λ f. f.item < n) (at_items_where code test n)
  within_items test n = each_map (λ f. f.item < n) (at_item code) (all_below test n) (each_below (λ i. i < n) test n (λ i l is. l))

  once_if : (b : Bool) (n : ℕ) → Each (λ f. n ≤ f.item) (found_if b code n) × EachTwo Differ (found_if b code n)
  once_if true n = ((omega arith, tt), (tt, tt))
  once_if false n = (tt, tt)

  -- also where one is after the last item
  once_or_missing : (test other : ℕ → Bool) (n : ℕ) → EachTwo Differ (at_items_where code test n ++ if_missing code other n)
  once_or_missing test other n =
      let missing : Each (λ f. n ≤ f.item) (if_missing code other n) × EachTwo Differ (if_missing code other n) = once_if (not (any_below other n)) n in
      two_by_item n (at_items_where code test n) (if_missing code other n) (within_items test n) (once_at_items test n) missing.0 missing.1

  coded_or_missing : (test other : ℕ → Bool) (n : ℕ) → Each (λ f. f.code ≡ code) (at_items_where code test n ++ if_missing code other n)
  coded_or_missing test other n = each_append (λ f. f.code ≡ code) (at_items_where code test n) (if_missing code other n) (coded_items test n) (coded_if (not (any_below other n)) n)

module _ (l : LinkedItems) where
  early_ranks : (n : ℕ) → 4 < n → Each (λ f. rank f.code < n) (misplaced_items l ++ unmatched_braces l.outlines)
  early_ranks n h =
      each_append (λ f. rank f.code < n) (misplaced_items l) (unmatched_braces l.outlines)
      (rank_under n E03 (misplaced_items l) (omega (arith, h)) (coded_items E03 (is_misplaced l) (length l.outlines)))
      (rank_under n E04 (unmatched_braces l.outlines) h (coded_items E04 (is_unmatched l.outlines) (length l.outlines)))

  early_once : EachTwo Differ (misplaced_items l ++ unmatched_braces l.outlines)
  early_once =
      two_by_rank 4 (misplaced_items l) (unmatched_braces l.outlines)
      (rank_under 4 E03 (misplaced_items l) (omega arith) (coded_items E03 (is_misplaced l) (length l.outlines)))
      (once_at_items E03 (is_misplaced l) (length l.outlines))
      (rank_from 4 E04 (unmatched_braces l.outlines) (omega arith) (coded_items E04 (is_unmatched l.outlines) (length l.outlines)))
      (once_at_items E04 (is_unmatched l.outlines) (length l.outlines))

  coded_headers : Each (λ f. f.code ≡ E05) (header_faults l)
  coded_headers = coded_or_missing E05 (is_repeated_header l) (is_program_item l.outlines) (length l.outlines)

  headers_once : EachTwo Differ (misplaced_items l ++ unmatched_braces l.outlines ++ header_faults l)
  headers_once =
      two_by_rank 5 (misplaced_items l ++ unmatched_braces l.outlines) (header_faults l)
      (early_ranks 5 (omega arith)) early_once
      (rank_from 5 E05 (header_faults l) (omega arith) coded_headers)
      (once_or_missing E05 (is_repeated_header l) (is_program_item l.outlines) (length l.outlines))

  header_ranks : (n : ℕ) → 5 < n → Each (λ f. rank f.code < n) (misplaced_items l ++ unmatched_braces l.outlines ++ header_faults l)
  header_ranks n h =
      each_append (λ f. rank f.code < n) (misplaced_items l ++ unmatched_braces l.outlines) (header_faults l)
      (early_ranks n (omega (arith, h))) (rank_under n E05 (header_faults l) h coded_headers)

  coded_states : Each (λ f. f.code ≡ E06) (missing_states l.outlines)
  coded_states = coded_or_missing E06 (is_stateless l.outlines) (is_ss_item l.outlines) (length l.outlines)

  pub order_once : EachTwo Differ (order_faults l)
  order_once =
      two_by_rank 6 (misplaced_items l ++ unmatched_braces l.outlines ++ header_faults l) (missing_states l.outlines)
      (header_ranks 6 (omega arith)) headers_once
      (rank_from 6 E06 (missing_states l.outlines) (omega arith) coded_states)
      (once_or_missing E06 (is_stateless l.outlines) (is_ss_item l.outlines) (length l.outlines))

  pub order_ranks : Each (λ f. rank f.code < 7) (order_faults l)
  order_ranks =
      each_append (λ f. rank f.code < 7) (misplaced_items l ++ unmatched_braces l.outlines ++ header_faults l) (missing_states l.outlines)
      (header_ranks 7 (omega arith)) (rank_under 7 E06 (missing_states l.outlines) (omega arith) coded_states)
