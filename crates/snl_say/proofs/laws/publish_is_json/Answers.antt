use Rattle.snl_say.proofs.PublishText.{publish_same}
use Rattle.snl_say.proofs.laws.publish_is_json.Goals as goal

pub returns : goal.returns
returns c = publish_same
