use Rattle.snl_item_laws.proofs.ToldLaws.{changes_found}
use Rattle.snl_item_laws.proofs.walk_laws.changes_are_found.Goals as goal

pub returns : goal.returns
returns c = λ bytes tree. changes_found bytes tree
