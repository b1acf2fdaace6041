use Rattle.std.proofs.Common.{◌≡◌, ◌≤◌, length}
use Rattle.snl_scope.specs.Below.{all_below}
use Rattle.snl_scope.specs.Places.{is_set_begin}
use Rattle.snl_kept.proofs.ways.one_item.numbers.set_number.Given as goal

abbrev pub invariant-loop-number : goal.invariant-loop-number
invariant-loop-number l = (l.count ≡ length (all_below (is_set_begin l.fn.links.outlines) l.number)) × (l.count ≤ l.number)
