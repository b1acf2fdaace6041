use Rattle.std.proofs.Common.{◌≡◌, ◌≤◌, length, take}
use Rattle.snl_walk.specs.Few.{nearest}
use Rattle.snl_walk.specs.Scopes.{look_up}
use Rattle.snl_walk.proofs.visible.meant_by.Given as goal

abbrev pub invariant-loop-left : goal.invariant-loop-left
invariant-loop-left l = record {
  within : l.left ≤ length l.few;
  same : look_up l.name (nearest l.few) ≡ look_up l.name (nearest (take l.left l.few));
}

abbrev pub decreases-loop-left : goal.decreases-loop-left
decreases-loop-left l = l.left
