use Rattle.snl_item_laws.proofs.ToldLaws.{targets_found}
use Rattle.snl_item_laws.proofs.walk_laws.targets_are_found.Goals as goal

pub returns : goal.returns
returns c = λ bytes tree. targets_found bytes tree
