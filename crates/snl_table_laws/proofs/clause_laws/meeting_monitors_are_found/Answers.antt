use Rattle.std.proofs.Common.{get_or}
use Rattle.std.proofs.lemmas.List.Elements.{Contains-get_or}
use Rattle.snl_scope.specs.Clauses.{clause_faults}
use Rattle.snl_table_laws.proofs.Clashes.{monitors_apart}
use Rattle.snl_table_laws.proofs.Repetitions.{repetitions}
use Rattle.snl_table_laws.proofs.clause_laws.meeting_monitors_are_found.Goals as goal

pub returns-clause-found : goal.returns-clause-found
returns-clause-found c = monitors_apart

pub returns-clause-only : goal.returns-clause-only
returns-clause-only c = λ ss k d lt. repetitions ss (get_or (clause_faults ss) k d) (Contains-get_or (clause_faults ss) k d lt)
