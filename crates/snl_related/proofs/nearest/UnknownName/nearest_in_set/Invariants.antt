use Rattle.std.proofs.Common.{◌≡◌}
use Rattle.snl_related.specs.Near.{states_offered}
use Rattle.snl_related.proofs.nearest.UnknownName.nearest_in_set.Given as goal

-- the nearest of the items so far
abbrev pub invariant-loop-number : goal.invariant-loop-number
invariant-loop-number l =
    l.best ≡ states_offered l.self.items.text.now l.self.links.now.outlines l.set l.self.name.now
    l.number
