use Rattle.snl_lex.proofs.MovedLines.{lines_moved}
use Rattle.snl_lex.proofs.line_shift.lines_move.Goals as goal

pub returns : goal.returns
returns c old text t offset is outside = lines_moved old text t is offset outside
