use Rattle.snl_kept.proofs.OwnOrder.{diagnostics_told}
use Rattle.snl_kept.proofs.laws.finding_laws.diagnostics_are_found.Goals as goal

pub returns : goal.returns
returns c = diagnostics_told
