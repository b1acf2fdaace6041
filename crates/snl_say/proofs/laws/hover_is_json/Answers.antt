use Rattle.snl_say.proofs.AnswerText.{hover_same}
use Rattle.snl_say.proofs.laws.hover_is_json.Goals as goal

pub returns : goal.returns
returns c = hover_same
