use Rattle.std.proofs.Common.{◌≡◌, ◌+◌, ◌-◌, ◌≤◌, ◌++◌, length, take, vec_capacity, vec_len}
use Rattle.snl_lists.specs.Moves.{moved}
use Rattle.snl_items.proofs.new_pieces.with_moved.Given as goal

abbrev pub invariant-loop-end : goal.invariant-loop-end
invariant-loop-end l = record {
  items : l.list.items ≡ l.fn.list.items ++ moved l.old_stop l.new_stop (take l.end-index l.ends);
  room : vec_len l.list + (length l.ends - l.end-index) ≤ vec_capacity l.list;
}
