use Rattle.std.proofs.Common.{[]}
use Rattle.snl_summary.proofs.Firsts.{once_apart, once_after-push, once_same}
use Rattle.snl_summary.proofs.laws.summary_laws.names_kept_once.Goals as goal

pub returns-clause-same : goal.returns-clause-same
returns-clause-same c = once_same

pub returns-clause-apart : goal.returns-clause-apart
returns-clause-apart c = once_apart

pub returns-clause-ordered : goal.returns-clause-ordered
returns-clause-ordered c = once_after-push []
