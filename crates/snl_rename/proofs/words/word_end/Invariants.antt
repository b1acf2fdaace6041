use Rattle.std.proofs.Common.{length, ◌-◌, ◌≤◌}
use Rattle.snl_rename.proofs.words.word_end.Given as goal

-- it is after the start, and in the bytes if that is
abbrev pub invariant-loop-end : goal.invariant-loop-end
invariant-loop-end l = record {
  low : l.from ≤ l.end;
  inside : l.from ≤ length l.bytes → l.end ≤ length l.bytes;
}

abbrev pub decreases-loop-end : goal.decreases-loop-end
decreases-loop-end l = length l.bytes - l.end
