use Rattle.snl_script.proofs.SpelledLemmas.{reads_back}
use Rattle.snl_script.proofs.laws.commands_read_back.Goals as goal

pub returns : goal.returns
returns c = reads_back
