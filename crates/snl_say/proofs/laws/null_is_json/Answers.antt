use Rattle.snl_say.proofs.AnswerText.{null_same}
use Rattle.snl_say.proofs.laws.null_is_json.Goals as goal

pub returns : goal.returns
returns c = null_same
