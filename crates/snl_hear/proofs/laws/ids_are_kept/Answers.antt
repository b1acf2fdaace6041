use Rattle.snl_hear.proofs.Kept.{id_kept}
use Rattle.snl_hear.proofs.laws.ids_are_kept.Goals as goal

pub returns : goal.returns
returns c = id_kept
