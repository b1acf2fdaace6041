use Rattle.snl_hear.proofs.Spelling.{notification_heard}
use Rattle.snl_hear.proofs.laws.notifications_are_heard.Goals as goal

pub returns : goal.returns
returns c = notification_heard
