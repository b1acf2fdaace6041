use Rattle.snl_say.proofs.AnswerText.{initialize_same}
use Rattle.snl_say.proofs.laws.initialize_is_json.Goals as goal

pub returns : goal.returns
returns c = initialize_same
