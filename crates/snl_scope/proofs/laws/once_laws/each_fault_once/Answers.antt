use Rattle.snl_scope.proofs.Once.{faults_once}
use Rattle.snl_scope.proofs.laws.once_laws.each_fault_once.Goals as goal

pub returns : goal.returns
returns c = faults_once
