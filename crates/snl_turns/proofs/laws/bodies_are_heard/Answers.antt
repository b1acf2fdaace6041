use Rattle.snl_turns.proofs.Heard.{framed-begins}
use Rattle.snl_turns.proofs.laws.bodies_are_heard.Goals as goal

pub returns : goal.returns
returns c = framed-begins c.messages_read_back.ensures
