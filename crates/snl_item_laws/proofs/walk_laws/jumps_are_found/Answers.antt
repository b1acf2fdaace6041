use Rattle.snl_item_laws.proofs.ToldLaws.{jumps_found}
use Rattle.snl_item_laws.proofs.walk_laws.jumps_are_found.Goals as goal

pub returns : goal.returns
returns c = λ bytes kinds tree is. jumps_found bytes tree kinds (c.item_spelled.ensures.spelled tree kinds is)
