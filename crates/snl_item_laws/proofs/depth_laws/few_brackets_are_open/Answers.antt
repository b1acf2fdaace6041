use Rattle.snl_item_laws.proofs.Depths.{few_open}
use Rattle.snl_item_laws.proofs.depth_laws.few_brackets_are_open.Goals as goal

pub returns : goal.returns
returns c = λ kinds tree is n below. few_open kinds tree is n below
