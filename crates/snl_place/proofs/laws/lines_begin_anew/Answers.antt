use Rattle.snl_place.proofs.Walks.{new_line}
use Rattle.snl_place.proofs.laws.lines_begin_anew.Goals as goal

pub returns : goal.returns
returns c = new_line
