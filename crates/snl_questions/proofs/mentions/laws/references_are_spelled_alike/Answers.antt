use Rattle.snl_questions.proofs.AlikeMentions.{references_alike}
use Rattle.snl_questions.proofs.mentions.laws.references_are_spelled_alike.Goals as goal

pub returns : goal.returns
returns c = references_alike
