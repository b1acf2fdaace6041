use Rattle.snl_item_laws.proofs.CutItems.{cut_goes_on, cut_whole}
use Rattle.snl_item_laws.proofs.cut_laws.items_are_cut_whole.Goals as goal

pub returns-clause-whole : goal.returns-clause-whole
returns-clause-whole c = λ kinds tree rest is free. cut_whole rest kinds tree is free c.first_item.ensures.least

pub returns-clause-more : goal.returns-clause-more
returns-clause-more c = λ kinds tree rest is goes. cut_goes_on c.first_item.ensures.least kinds tree rest (c.item_spelled.ensures.spelled tree kinds is) goes
