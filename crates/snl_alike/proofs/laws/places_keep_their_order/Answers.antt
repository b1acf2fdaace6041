use Rattle.std.proofs.Common.{length}
use Rattle.snl_alike.proofs.Later.{moved_later}
use Rattle.snl_alike.proofs.laws.places_keep_their_order.Goals as goal

pub returns : goal.returns
returns c = λ text es one other. moved_later (length text) es one other
