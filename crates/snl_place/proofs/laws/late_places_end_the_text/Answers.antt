use Rattle.std.proofs.Common.{arith}
use Rattle.snl_place.proofs.ByLines.{past_lines}
use Rattle.snl_place.proofs.LineEnds.{ends_counted}
use Rattle.snl_place.proofs.laws.late_places_end_the_text.Goals as goal

pub returns : goal.returns
returns c = λ encoding text place late.
    past_lines encoding 0 text place.line place.character (omega (arith, late, ends_counted text))
