use Rattle.std.proofs.Common.{◌≡◌, ◌++◌, ◌≤◌, length}
use Rattle.snl_codes.specs.declared.code.Code.TheVariants.{E03}
use Rattle.snl_scope.specs.LinkedItems.{LinkedItems}
use Rattle.snl_scope.specs.Order.{at_items_where, is_misplaced}
use Rattle.snl_scope.specs.NameTables.{before}
use Rattle.snl_scope.proofs.items.order.add_misplaced.Given as goal

-- what the items so far say, and what is found at them
abbrev pub invariant-loop-item : goal.invariant-loop-item
invariant-loop-item l =
    let of : LinkedItems = record { outlines = l.scopes; kinds = l.kinds } in
    record {
      known : l.before ≡ before of l.item;
      found : l.faults.items ≡ l.initial.faults.items ++ at_items_where E03 (is_misplaced of) l.item;
      within : l.item ≤ length l.kinds;
    }
