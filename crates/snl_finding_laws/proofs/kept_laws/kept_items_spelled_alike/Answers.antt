use Rattle.snl_items.specs.Fresh.{token_edit_of}
use Rattle.snl_finding_laws.proofs.KeptItems.{kept_alike}
use Rattle.snl_finding_laws.proofs.kept_laws.kept_items_spelled_alike.Goals as goal

pub returns : goal.returns
returns c = λ e change is. kept_alike e (token_edit_of e) change is
