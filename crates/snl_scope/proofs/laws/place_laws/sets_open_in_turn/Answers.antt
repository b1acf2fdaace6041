use Rattle.snl_scope.proofs.OpenSets.{open_step, place_here, place_within}
use Rattle.snl_scope.proofs.laws.place_laws.sets_open_in_turn.Goals as goal

pub returns-clause-opened : goal.returns-clause-opened
returns-clause-opened c = open_step

pub returns-clause-placed : goal.returns-clause-placed
returns-clause-placed c = place_here

pub returns-clause-within : goal.returns-clause-within
returns-clause-within c = place_within
