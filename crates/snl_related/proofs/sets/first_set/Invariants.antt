use Rattle.std.proofs.Common.{◌≡◌}
use Rattle.snl_related.specs.Related.{first_set}
use Rattle.snl_related.proofs.sets.first_set.Given as goal

-- the first of the items so far
abbrev pub invariant-loop-item : goal.invariant-loop-item
invariant-loop-item l = l.first ≡ first_set l.items.text.now l.links.outlines l.name l.item
