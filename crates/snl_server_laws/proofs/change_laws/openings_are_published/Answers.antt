use Rattle.snl_server_laws.proofs.Published.{opening_kept, opening_published}
use Rattle.snl_server_laws.proofs.change_laws.openings_are_published.Goals as goal

pub returns-clause-published : goal.returns-clause-published
returns-clause-published c = opening_published

pub returns-clause-kept : goal.returns-clause-kept
returns-clause-kept c = opening_kept
