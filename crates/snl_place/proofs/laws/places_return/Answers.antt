use Rattle.snl_place.proofs.Walks.{back}
use Rattle.snl_place.proofs.laws.places_return.Goals as goal

pub returns : goal.returns
returns c = λ encoding text offset whole between.
    back encoding text offset whole.0 whole.1 between
