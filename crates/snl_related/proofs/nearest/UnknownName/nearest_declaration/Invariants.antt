use Rattle.std.proofs.Common.{◌≡◌}
use Rattle.snl_related.specs.Near.{declarations_offered}
use Rattle.snl_related.proofs.nearest.UnknownName.nearest_declaration.Given as goal

-- the nearest of the declarations so far
abbrev pub invariant-loop-number : goal.invariant-loop-number
invariant-loop-number l =
    l.best ≡ declarations_offered l.self.items.text.now l.self.links.now.outlines l.self.item
    l.wanted l.self.name.now l.number
