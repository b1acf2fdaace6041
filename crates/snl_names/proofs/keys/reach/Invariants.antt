use Rattle.std.proofs.Common.{◌-◌, ◌≤◌, length}
use Rattle.snl_names.proofs.keys.reach.Given as goal

abbrev pub invariant-loop-to : goal.invariant-loop-to
invariant-loop-to l = record {
  from : l.from ≤ l.to;
  within : l.to ≤ length l.keys;
}

abbrev pub decreases-loop-to : goal.decreases-loop-to
decreases-loop-to l = length l.keys - l.to
