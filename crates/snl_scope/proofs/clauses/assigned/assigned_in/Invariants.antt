use Rattle.std.proofs.Common.{map, take}
use Rattle.snl_scope.specs.Resolved.{Assigns, linked}
use Rattle.snl_scope.proofs.clauses.assigned.assigned_in.Given as goal

-- the table follows the clauses so far
abbrev pub invariant-loop-clause : goal.invariant-loop-clause
invariant-loop-clause l = Assigns l.assigned.items (map linked (take l.clause-index l.clauses))
