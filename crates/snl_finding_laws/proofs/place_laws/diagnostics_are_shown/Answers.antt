use Rattle.snl_finding_laws.proofs.Shown.{all_shown}
use Rattle.snl_finding_laws.proofs.place_laws.diagnostics_are_shown.Goals as goal

pub returns : goal.returns
returns c = all_shown
