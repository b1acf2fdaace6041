use Rattle.std.proofs.Common.{◌≡◌, ◌≤◌, length, map}
use Rattle.snl_scope.specs.Clauses.{clauses_before}
use Rattle.snl_scope.specs.OutlineList.{IsAt}
use Rattle.snl_scope.specs.Resolved.{linked}
use Rattle.snl_scope.proofs.clauses.resolved.resolved_clauses.Given as goal

-- the clauses of the items so far are found
abbrev pub invariant-loop-item : goal.invariant-loop-item
invariant-loop-item l = record {
  found : map linked l.found.items ≡ clauses_before l.outlines.outlines l.item;
  at : IsAt l.outlines.outlines l.at;
  here : l.at.item ≡ l.item;
  within : l.item ≤ length l.outlines.outlines;
}
