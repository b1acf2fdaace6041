use Rattle.snl_item_laws.proofs.ToldLaws.{names_found}
use Rattle.snl_item_laws.proofs.walk_laws.names_are_found.Goals as goal

pub returns : goal.returns
returns c = λ bytes tree. names_found bytes tree
