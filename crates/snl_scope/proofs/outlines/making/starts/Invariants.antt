use Rattle.std.proofs.Common.{◌≡◌, ◌≤◌, length, take}
use Rattle.snl_scope.specs.OutlineList.{clauses_in, declares_in}
use Rattle.snl_scope.proofs.outlines.making.starts.Given as goal

abbrev pub invariant-loop-number : goal.invariant-loop-number
invariant-loop-number l = record {
  declares : l.declares ≡ declares_in (take l.number l.heads);
  clauses : l.clauses ≡ clauses_in (take l.number l.heads);
  within : l.number ≤ length l.heads;
}
