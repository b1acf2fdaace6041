use Rattle.std.proofs.Common.{◌≡◌, map, take}
use Rattle.snl_item_check.specs.Told.{told_in_item, told_kept}
use Rattle.snl_reading.specs.ItemsRead.{items_read}
use Rattle.snl_reading.proofs.checking.checks_of.Given as goal

abbrev pub invariant-loop-number : goal.invariant-loop-number
invariant-loop-number l = map told_kept l.checks.items ≡ map (told_in_item l.text) (items_read (take l.number l.items))
