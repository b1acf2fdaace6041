use Rattle.snl_turns.proofs.Heard.{rest_once, turns_once}
use Rattle.snl_turns.proofs.laws.messages_are_told_once.Goals as goal

pub returns : goal.returns
returns c = record { turns = turns_once; rest = rest_once }
