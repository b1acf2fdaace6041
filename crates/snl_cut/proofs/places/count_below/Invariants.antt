use Rattle.std.proofs.Common.{◌-◌, ◌≤◌, length}
use Rattle.snl_cut.specs.Cut.{ends_below}
use Rattle.snl_cut.proofs.places.count_below.Given as goal

abbrev pub invariant-loop-low : goal.invariant-loop-low
invariant-loop-low g l = record {
  least : l.low ≤ ends_below l.place (g.E.Ends.listed l.ends);
  most : ends_below l.place (g.E.Ends.listed l.ends) ≤ l.high;
  inside : l.high ≤ length (g.E.Ends.listed l.ends);
}

abbrev pub decreases-loop-low : goal.decreases-loop-low
decreases-loop-low g l = l.high - l.low
