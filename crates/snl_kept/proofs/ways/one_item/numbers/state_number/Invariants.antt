use Rattle.std.proofs.Common.{◌≡◌, ◌≤◌, ◌&&◌, length}
use Rattle.snl_scope.specs.Below.{all_below}
use Rattle.snl_scope.specs.Order.{is_named_state}
use Rattle.snl_scope.specs.Places.{stands_in}
use Rattle.snl_kept.proofs.ways.one_item.numbers.state_number.Given as goal

abbrev pub invariant-loop-number : goal.invariant-loop-number
invariant-loop-number l = (l.count ≡ length (all_below (λ i. is_named_state l.fn.links.outlines i && stands_in l.fn.links.outlines l.fn.set i) l.number)) × (l.count ≤ l.number)
