use Rattle.std.proofs.Common.{◌≡◌, drop}
use Rattle.snl_moved.specs.Quiet.{quiet_along}
use Rattle.snl_kept.specs.ItemPlan.{outlines_kept}
use Rattle.snl_kept.proofs.ways.whole.kept_rows.after_made.Given as goal

-- the items that are left decide for all
abbrev pub invariant-loop-entry : goal.invariant-loop-entry
invariant-loop-entry l = quiet_along l.next (outlines_kept (drop l.entry-index l.made)) ≡ quiet_along l.fn.in_later_set (outlines_kept l.made)
