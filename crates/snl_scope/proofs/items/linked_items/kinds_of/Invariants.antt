use Rattle.std.proofs.Common.{◌≡◌, map, take}
use Rattle.snl_scope.proofs.items.linked_items.kinds_of.Given as goal

-- the kinds of the items so far
abbrev pub invariant-loop-summary : goal.invariant-loop-summary
invariant-loop-summary l = l.kinds.items ≡ map (λ s. s.now.kind) (take l.summary-index l.summaries)
