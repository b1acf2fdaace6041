-- No finding of links comes twice.
use Rattle.std.proofs.Common.{◌<◌, ◌≤◌, ◌++◌, arith}
use Rattle.std.proofs.lemmas.List.Elements.{recursion_from_All}
use Rattle.std.specs.List.{All, AllByRecursion as Each}
use Rattle.snl_facts.specs.Each.{EachTwo, each_append, each_weaker, pairs_from_two}
use Rattle.snl_scope.specs.Clauses.{clause_faults}
use Rattle.snl_scope.specs.LinkedItems.{LinkedItems}
use Rattle.snl_scope.specs.Names.{name_faults}
use Rattle.snl_scope.specs.Once.{AreFoundOnce}
use Rattle.snl_summary.specs.RisingTokens.{TokensRise}
use Rattle.snl_scope.specs.Order.{order_faults}
use Rattle.snl_scope.proofs.Families.{Differ, rank, two_by_rank}
use Rattle.snl_scope.proofs.OnceClauses.{clause_ranks, clauses_once}
use Rattle.snl_scope.proofs.OnceNames.{names_once, names_ranks}
use Rattle.snl_scope.proofs.OnceOrder.{order_once, order_ranks}

module _ (l : LinkedItems) (rise : All TokensRise l.outlines) where
  each_rises : Each TokensRise l.outlines
  each_rises = recursion_from_All TokensRise l.outlines rise

  -- of order and names
  two_families : EachTwo Differ (order_faults l ++ name_faults l)
  two_families =
      two_by_rank 7 (order_faults l) (name_faults l) (order_ranks l) (order_once l)
      (each_weaker (λ f. (7 ≤ rank f.code) × (rank f.code < 10)) (λ f. 7 ≤ rank f.code) (λ f h. h.0) (name_faults l) (names_ranks l each_rises)) (names_once l each_rises)

  two_families_ranks : Each (λ f. rank f.code < 10) (order_faults l ++ name_faults l)
  two_families_ranks =
      each_append (λ f. rank f.code < 10) (order_faults l) (name_faults l)
      (each_weaker (λ f. rank f.code < 7) (λ f. rank f.code < 10) (λ f h. omega (arith, h)) (order_faults l) (order_ranks l))
      (each_weaker (λ f. (7 ≤ rank f.code) × (rank f.code < 10)) (λ f. rank f.code < 10) (λ f h. h.1) (name_faults l) (names_ranks l each_rises))

  -- of order, names and clauses
  three_families : EachTwo Differ (order_faults l ++ name_faults l ++ clause_faults l.outlines)
  three_families = two_by_rank 10 (order_faults l ++ name_faults l) (clause_faults l.outlines) two_families_ranks two_families (clause_ranks l.outlines) (clauses_once l.outlines each_rises)

  pub faults_once : AreFoundOnce (order_faults l ++ name_faults l ++ clause_faults l.outlines)
  faults_once = pairs_from_two Differ (order_faults l ++ name_faults l ++ clause_faults l.outlines) three_families
