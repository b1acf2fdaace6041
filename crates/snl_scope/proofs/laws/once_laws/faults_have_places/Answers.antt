use Rattle.snl_scope.proofs.FaultPlaces.{faults_placed}
use Rattle.snl_scope.proofs.laws.once_laws.faults_have_places.Goals as goal

pub returns : goal.returns
returns c = faults_placed
