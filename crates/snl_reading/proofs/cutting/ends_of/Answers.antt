use Rattle.std.proofs.Common.{length}
use Rattle.snl_grammar.specs.Items.{item}
use Rattle.snl_grammar.specs.ItemLaws.{item_front}
use Rattle.snl_reading.proofs.Along.{ends_within}
use Rattle.snl_reading.proofs.cutting.ends_of.Goals as goal

pub returns-clause-within : goal.returns-clause-within
returns-clause-within c =
    let marks = c.args.marks.now in
    ends_within item item_front marks 0 c.in_ok-ends.ends.items (length marks) c.in_ok-ends.ensures.cut
