use Rattle.std.proofs.Common.{take}
use Rattle.snl_scope.specs.OutlineList.{AddsClauses, Extends}
use Rattle.snl_scope.proofs.outlines.making.add_clauses.Given as goal

-- the clauses so far are added
abbrev pub invariant-loop-clause : goal.invariant-loop-clause
invariant-loop-clause l = record {
  names : Extends l.initial.names l.names;
  added : AddsClauses l.names l.initial.flat.items l.flat.items (take l.clause-index l.clauses);
}
