use Rattle.std.proofs.Common.{◌≡◌, map, take}
use Rattle.snl_item_check.specs.Items.{summary_of_item}
use Rattle.snl_reading.specs.ItemsRead.{items_read}
use Rattle.snl_reading.proofs.linking.summaries_of.Given as goal

abbrev pub invariant-loop-item : goal.invariant-loop-item
invariant-loop-item l = l.summaries.items ≡ map (summary_of_item l.text) (items_read (take l.item-index l.items))
