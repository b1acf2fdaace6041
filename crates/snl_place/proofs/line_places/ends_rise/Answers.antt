use Rattle.snl_place.proofs.LineEnds.{ends_in}
use Rattle.snl_place.proofs.line_places.ends_rise.Goals as goal
use Rattle.snl_lex.specs.LineLaws.{ends_order}

pub returns : goal.returns
returns c = record { order = ends_order; inside = ends_in }
