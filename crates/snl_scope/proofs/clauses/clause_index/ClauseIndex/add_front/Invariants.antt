use Rattle.snl_scope.specs.declared.clauses.clause_index.Extent.TheVariants as extent
use Rattle.snl_scope.specs.Below.{any_below}
use Rattle.snl_scope.specs.Claims.{Adds, same_claim}
use Rattle.snl_scope.proofs.clauses.clause_index.ClauseIndex.add_front.Given as goal

-- the elements so far are claimed
abbrev pub invariant-loop-element : goal.invariant-loop-element
invariant-loop-element l =
    Adds l.initial.self l.self (λ m. any_below (λ k. same_claim (record { purpose = l.purpose; variable = l.variable; extent = extent.Element k }) m) l.element) l.number
