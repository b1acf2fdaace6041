use Rattle.snl_server_laws.proofs.Answered.{answered_once, never_answered}
use Rattle.snl_server_laws.proofs.answer_laws.requests_are_answered_once.Goals as goal

pub returns-clause-request : goal.returns-clause-request
returns-clause-request c = answered_once

pub returns-clause-notification : goal.returns-clause-notification
returns-clause-notification c = never_answered
