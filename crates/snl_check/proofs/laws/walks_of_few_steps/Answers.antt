use Rattle.snl_check.proofs.FewSteps.{few_steps}
use Rattle.snl_check.proofs.laws.walks_of_few_steps.Goals as goal

pub returns : goal.returns
returns c = few_steps
