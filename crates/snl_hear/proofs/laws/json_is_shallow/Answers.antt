use Rattle.snl_hear.proofs.Kept.{shallow}
use Rattle.snl_hear.proofs.laws.json_is_shallow.Goals as goal

pub returns : goal.returns
returns c = shallow
