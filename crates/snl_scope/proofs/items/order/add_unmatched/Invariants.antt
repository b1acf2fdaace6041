use Rattle.std.proofs.Common.{◌≡◌, ◌++◌, ◌≤◌, length}
use Rattle.snl_codes.specs.declared.code.Code.TheVariants.{E04}
use Rattle.snl_scope.specs.Order.{at_items_where, is_unmatched}
use Rattle.snl_scope.proofs.items.order.add_unmatched.Given as goal

-- what is found at the items so far
abbrev pub invariant-loop-item : goal.invariant-loop-item
invariant-loop-item l = record {
  found : l.faults.items ≡ l.initial.faults.items ++ at_items_where E04 (is_unmatched l.scopes) l.item;
  within : l.item ≤ length l.scopes;
}
