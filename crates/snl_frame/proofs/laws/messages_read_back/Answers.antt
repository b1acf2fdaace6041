use Rattle.snl_frame.proofs.ReadBack.{reads_back}
use Rattle.snl_frame.proofs.laws.messages_read_back.Goals as goal

pub returns : goal.returns
returns c = reads_back
