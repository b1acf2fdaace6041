use Rattle.std.proofs.Common.{◌≡◌, ◌-◌, ◌≤◌, length, take}
use Rattle.snl_cut.specs.Cut.{Walks, after_ticks, last_end, notes_along}
use Rattle.snl_cut.proofs.Agreeing.{Unmet}
use Rattle.snl_cut.proofs.narrow.recut_narrow.Given as goal

abbrev pub invariant-loop-kept : goal.invariant-loop-kept
invariant-loop-kept g l = record {
  walked : Walks g.F.Front.first_of l.units (last_end 0 (take l.kept_front (g.E.Ends.listed l.old_ends))) l.made.items l.at;
  noted : l.notes.items ≡ notes_along g.F.Noting.note_of l.units (last_end 0 (take l.kept_front (g.E.Ends.listed l.old_ends))) l.made.items;
  inside : l.at ≤ length l.units;
  unmet : Unmet g.F.Front.first_of l.old_units l.units l.old_stop l.new_stop l.at;
  ticked : l.work ≡ after_ticks l.fn.work (length l.made.items);
}

abbrev pub decreases-loop-kept : goal.decreases-loop-kept
decreases-loop-kept g l = length l.units - l.at
