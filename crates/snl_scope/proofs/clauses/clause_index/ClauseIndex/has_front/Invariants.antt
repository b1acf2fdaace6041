use Rattle.std.proofs.Common.{◌≡◌, ◌≤◌, false}
use Rattle.snl_scope.specs.declared.clauses.clause_index.Extent.TheVariants as extent
use Rattle.snl_scope.specs.Below.{any_below}
use Rattle.snl_scope.specs.Claims.{has_claim}
use Rattle.snl_scope.proofs.clauses.clause_index.ClauseIndex.has_front.Given as goal

-- none of the elements so far is claimed
abbrev pub invariant-loop-element : goal.invariant-loop-element
invariant-loop-element l = record {
  none : any_below (λ k. has_claim l.self l.purpose l.variable (extent.Element k)) l.element ≡ false;
  within : l.element ≤ l.length;
}
