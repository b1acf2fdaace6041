use Rattle.std.proofs.Common.{◌≡◌, ◌++◌, ◌≤◌, length}
use Rattle.snl_codes.specs.declared.code.Code.TheVariants.{E05}
use Rattle.snl_scope.specs.Below.{any_below}
use Rattle.snl_scope.specs.Order.{at_items_where, is_program_item, is_repeated_header}
use Rattle.snl_scope.proofs.items.order.add_header_faults.Given as goal

-- whether an item so far begins with `program`, and what is found at them
abbrev pub invariant-loop-item : goal.invariant-loop-item
invariant-loop-item l = record {
  known : l.has_program ≡ any_below (is_program_item l.scopes) l.item;
  found : l.faults.items ≡ l.initial.faults.items ++ at_items_where E05 (is_repeated_header (record { outlines = l.scopes; kinds = l.kinds })) l.item;
  within : l.item ≤ length l.kinds;
}
