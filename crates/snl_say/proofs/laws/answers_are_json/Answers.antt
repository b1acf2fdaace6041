use Rattle.snl_say.proofs.AnsweredText.{answered_same}
use Rattle.snl_say.proofs.laws.answers_are_json.Goals as goal

pub returns : goal.returns
returns c = answered_same
