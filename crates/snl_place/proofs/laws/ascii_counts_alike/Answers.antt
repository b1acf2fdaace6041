use Rattle.snl_place.proofs.Characters.{ascii_alike}
use Rattle.snl_place.proofs.laws.ascii_counts_alike.Goals as goal

pub returns : goal.returns
returns c = ascii_alike
