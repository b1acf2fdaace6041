use Rattle.snl_table_laws.proofs.Clashes.{syncs_apart}
use Rattle.snl_table_laws.proofs.clause_laws.sound_syncs_apart.Goals as goal

pub returns : goal.returns
returns c = syncs_apart
