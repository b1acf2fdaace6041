use Rattle.std.proofs.Common.{◌≡◌, vec_len}
use Rattle.snl_reading.proofs.cutting.marks_of.Given as goal

-- there are as many marks as tokens so far
abbrev pub invariant-loop-piece : goal.invariant-loop-piece
invariant-loop-piece l = vec_len l.marks ≡ l.piece-index
