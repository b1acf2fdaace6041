use Rattle.snl_hear.proofs.ReadBack.{reads_back}
use Rattle.snl_hear.proofs.laws.values_read_back.Goals as goal

pub returns : goal.returns
returns c = reads_back
