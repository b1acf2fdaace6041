use Rattle.std.proofs.Common.{length, ◌-◌}
use Rattle.snl_rename.proofs.words.has_word.Given as goal

abbrev pub decreases-loop-at : goal.decreases-loop-at
decreases-loop-at l = length l.bytes - l.at
