use Rattle.snl_place.proofs.Rising.{rising}
use Rattle.snl_place.proofs.laws.offsets_rise.Goals as goal

pub returns : goal.returns
returns c = λ encoding text earlier later order.
    rising encoding text earlier.line earlier.character later.line later.character order
