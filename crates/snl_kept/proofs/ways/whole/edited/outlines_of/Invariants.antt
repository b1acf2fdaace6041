use Rattle.std.proofs.Common.{◌≡◌, map, take}
use Rattle.snl_kept.specs.ItemPlan.{outlines_kept}
use Rattle.snl_kept.proofs.ways.whole.edited.outlines_of.Given as goal

-- what the items so far say
abbrev pub invariant-loop-entry : goal.invariant-loop-entry
invariant-loop-entry l = map (λ s. s.now) l.outlines.items ≡ outlines_kept (map (λ e. e.now) (take l.entry-index l.entries))
