use Rattle.std.proofs.Common.{◌≡◌, take, map}
use Rattle.snl_item_check.specs.Items.{summary_of_item}
use Rattle.snl_kept.specs.Parts.{item_of_part}
use Rattle.snl_kept.proofs.found.summaries.summaries_of.Given as goal

abbrev pub invariant-loop-part : goal.invariant-loop-part
invariant-loop-part l = map (λ s. s.now) l.summaries.items ≡ map (summary_of_item l.text) (map (item_of_part l.tokens) (take l.part-index l.parts))
