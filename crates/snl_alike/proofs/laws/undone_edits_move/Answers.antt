use Rattle.std.proofs.Common.{length}
use Rattle.snl_alike.proofs.Later.{undone_moves}
use Rattle.snl_alike.proofs.laws.undone_edits_move.Goals as goal

pub returns : goal.returns
returns c = λ text es. undone_moves text (length text) es
