use Rattle.std.proofs.Common.{◌≡◌, take}
use Rattle.snl_items.proofs.item_list.narrowed.Given as goal

abbrev pub invariant-loop-end : goal.invariant-loop-end
invariant-loop-end l = l.narrow.items ≡ take l.end-index l.ends
