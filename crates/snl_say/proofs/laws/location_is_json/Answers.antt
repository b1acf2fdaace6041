use Rattle.snl_say.proofs.AnswerText.{location_same}
use Rattle.snl_say.proofs.laws.location_is_json.Goals as goal

pub returns : goal.returns
returns c = location_same
