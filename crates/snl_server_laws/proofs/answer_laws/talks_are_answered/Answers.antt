use Rattle.snl_server_laws.proofs.Answered.{talk_answered}
use Rattle.snl_server_laws.proofs.answer_laws.talks_are_answered.Goals as goal

pub returns : goal.returns
returns c = talk_answered
