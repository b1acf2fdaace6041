use Rattle.std.proofs.Common.{◌≡◌, ◌+◌, ◌-◌, ◌≤◌, length, drop}
use Rattle.snl_lex.specs.Alphabet.{is_in}
use Rattle.snl_lex.specs.Runs.{run_of}
use Rattle.snl_lex.proofs.alphabet.run_end.Given as goal

abbrev pub invariant-loop-end : goal.invariant-loop-end
invariant-loop-end l = record {
  counted : l.from + run_of (is_in l.set) (drop l.from l.bytes) ≡ l.end + run_of (is_in l.set) (drop l.end l.bytes);
  inside : l.end ≤ length l.bytes;
}

abbrev pub decreases-loop-end : goal.decreases-loop-end
decreases-loop-end l = length l.bytes - l.end
