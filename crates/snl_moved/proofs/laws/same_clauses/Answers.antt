use Rattle.snl_moved.proofs.SameClauses.{clauses_same}
use Rattle.snl_moved.proofs.laws.same_clauses.Goals as goal

pub returns : goal.returns
returns c = clauses_same
