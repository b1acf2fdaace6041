use Rattle.std.proofs.Common.{◌≤◌, length}
use Rattle.snl_scope.specs.NameTables.{Marked, is_sought}
use Rattle.snl_scope.proofs.items.order.sets_with.Given as goal

-- the marks are those of the items so far
abbrev pub invariant-loop-item : goal.invariant-loop-item
invariant-loop-item l = record {
  marked : Marked (is_sought l.sought) l.marks.items l.scopes l.item;
  within : l.item ≤ length l.scopes;
}
