use Rattle.snl_expected.proofs.Asked.{what_comes}
use Rattle.snl_expected.proofs.laws.what_comes_is_viable.Goals as goal

pub returns : goal.returns
returns c before next = what_comes c.viable_fronts.ensures.whole c.viable_fronts.ensures.shorter c.item_read.ensures.told c.blamed_at_fault.ensures before next
