use Rattle.snl_script.proofs.GrowingLemmas.{next_of-grows}
use Rattle.snl_script.proofs.laws.whole_commands_stay.Goals as goal

pub returns : goal.returns
returns c = next_of-grows
