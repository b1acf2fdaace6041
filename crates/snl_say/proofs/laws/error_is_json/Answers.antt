use Rattle.snl_say.proofs.AnswerText.{error_same}
use Rattle.snl_say.proofs.laws.error_is_json.Goals as goal

pub returns : goal.returns
returns c = error_same
