use Rattle.snl_place.proofs.Rising.{places_in_order}
use Rattle.snl_place.proofs.laws.places_rise.Goals as goal

pub returns : goal.returns
returns c = places_in_order
