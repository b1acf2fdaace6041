use Rattle.snl_say.proofs.PublishText.{message_same}
use Rattle.snl_say.proofs.laws.message_is_json.Goals as goal

pub returns : goal.returns
returns c = message_same
