use Rattle.std.proofs.Common.{◌≡◌}
use Rattle.snl_related.specs.Related.{last_end}
use Rattle.snl_related.proofs.sets.last_end.Given as goal

-- the last of the items so far
abbrev pub invariant-loop-item : goal.invariant-loop-item
invariant-loop-item l = l.last ≡ last_end l.kinds l.item
