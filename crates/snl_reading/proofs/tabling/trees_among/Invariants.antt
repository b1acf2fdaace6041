use Rattle.std.proofs.Common.{◌≡◌, map, take, option_copied}
use Rattle.snl_reading.specs.ItemsRead.{tree_read}
use Rattle.snl_reading.proofs.tabling.trees_among.Given as goal

abbrev pub invariant-loop-item : goal.invariant-loop-item
invariant-loop-item l = map option_copied l.trees.items ≡ map tree_read (take l.item-index l.items)
