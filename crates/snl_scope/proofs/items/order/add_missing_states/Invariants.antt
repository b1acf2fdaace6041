use Rattle.std.proofs.Common.{◌≡◌, ◌++◌, ◌≤◌, length}
use Rattle.snl_codes.specs.declared.code.Code.TheVariants.{E06}
use Rattle.snl_scope.specs.Below.{any_below}
use Rattle.snl_scope.specs.Order.{at_items_where, is_ss_item, is_stateless}
use Rattle.snl_scope.proofs.items.order.add_missing_states.Given as goal

-- whether an item so far begins with `ss`, and what is found at them
abbrev pub invariant-loop-item : goal.invariant-loop-item
invariant-loop-item l = record {
  known : l.has_set ≡ any_below (is_ss_item l.scopes) l.item;
  found : l.faults.items ≡ l.initial.faults.items ++ at_items_where E06 (is_stateless l.scopes) l.item;
  within : l.item ≤ length l.scopes;
}
