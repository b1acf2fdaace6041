use Rattle.std.proofs.Common.{◌≡◌, drop, map, take}
use Rattle.snl_kept.specs.ItemPlan.{outlines_kept}
use Rattle.snl_kept.proofs.ways.whole.relink.say_the_same.Given as goal

-- the items so far say the same
abbrev pub invariant-loop-number : goal.invariant-loop-number
invariant-loop-number l = map (λ e. e.summary.outline) (take l.number l.made) ≡ take l.number (drop l.front (outlines_kept l.fn.entries.values))
