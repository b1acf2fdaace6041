use Rattle.snl_hear.proofs.Spelling.{request_heard}
use Rattle.snl_hear.proofs.laws.requests_are_heard.Goals as goal

pub returns : goal.returns
returns c = request_heard
