use Rattle.snl_questions.proofs.OwnReference.{name_referred}
use Rattle.snl_questions.proofs.mentions.laws.names_are_their_references.Goals as goal

pub returns : goal.returns
returns c = name_referred
