use Rattle.std.proofs.Common.{◌≡◌, ◌&&◌}
use Rattle.snl_scope.specs.Below.{all_below, any_below}
use Rattle.snl_scope.specs.Order.{is_named_state}
use Rattle.snl_scope.specs.Places.{stands_in}
use Rattle.snl_check.specs.Collected.{items_in}
use Rattle.snl_check.specs.Members.{is_faulty_item}
use Rattle.snl_check.proofs.reachability.members.members_of.Given as goal

-- what is in the set so far
abbrev pub invariant-loop-item : goal.invariant-loop-item
invariant-loop-item l = record {
  states : l.members.states.items ≡ all_below (λ j. is_named_state l.row_source.links.now.outlines j && stands_in l.row_source.links.now.outlines l.set j) l.item;
  faulty : l.members.has_faulty ≡ any_below (λ j. is_faulty_item (items_in l.row_source.program) j && stands_in l.row_source.links.now.outlines l.set j) l.item;
}
