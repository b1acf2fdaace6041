use Rattle.snl_server_laws.proofs.Published.{closing_kept, closing_published}
use Rattle.snl_server_laws.proofs.change_laws.closings_are_published.Goals as goal

pub returns-clause-published : goal.returns-clause-published
returns-clause-published c = closing_published

pub returns-clause-gone : goal.returns-clause-gone
returns-clause-gone c = closing_kept
