use Rattle.std.proofs.Common.{length, ◌-◌, ◌≡◌, ◌≤◌}
use Rattle.snl_cut.specs.Cut.{Walks, after_ticks}
use Rattle.snl_cut.proofs.whole.cut_all.Given as goal

abbrev pub invariant-loop-at : goal.invariant-loop-at
invariant-loop-at g l = record {
  walked : Walks g.F.Front.first_of l.units 0 l.ends.items l.at;
  inside : l.at ≤ length l.units;
  ticked : l.work ≡ after_ticks l.fn.work (length l.ends.items);
}

abbrev pub decreases-loop-at : goal.decreases-loop-at
decreases-loop-at g l = length l.units - l.at
