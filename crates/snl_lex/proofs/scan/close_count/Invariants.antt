use Rattle.std.proofs.Common.{◌≡◌, ◌-◌, ◌≤◌, length, drop}
use Rattle.snl_lex.specs.Runs.{close_of}
use Rattle.snl_lex.proofs.Turns.{shifted}
use Rattle.snl_lex.proofs.scan.close_count.Given as goal

abbrev pub invariant-loop-end : goal.invariant-loop-end
invariant-loop-end l = record {
  counted : close_of l.a l.b (drop l.from l.bytes) ≡ shifted (l.end - l.from) (close_of l.a l.b (drop l.end l.bytes));
  inside : l.end ≤ length l.bytes;
  after : l.from ≤ l.end;
}

abbrev pub decreases-loop-end : goal.decreases-loop-end
decreases-loop-end l = length l.bytes - l.end
