use Rattle.snl_item_check.proofs.Within.{faults_within}
use Rattle.snl_item_check.proofs.laws.faults_stand_in_tokens.Goals as goal

pub returns : goal.returns
returns c = faults_within
