use Rattle.snl_server_laws.proofs.Published.{change_kept, change_published}
use Rattle.snl_server_laws.proofs.change_laws.changes_are_published.Goals as goal

pub returns-clause-published : goal.returns-clause-published
returns-clause-published c = change_published

pub returns-clause-kept : goal.returns-clause-kept
returns-clause-kept c = change_kept
