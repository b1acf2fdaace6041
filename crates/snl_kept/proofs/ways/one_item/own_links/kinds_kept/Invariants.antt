use Rattle.std.proofs.Common.{◌≡◌, take}
use Rattle.snl_kept.specs.ItemPlan.{kinds_kept}
use Rattle.snl_kept.proofs.ways.one_item.own_links.kinds_kept.Given as goal

-- the kinds so far
abbrev pub invariant-loop-number : goal.invariant-loop-number
invariant-loop-number l = l.kinds.items ≡ take l.number (kinds_kept l.entries.values)
