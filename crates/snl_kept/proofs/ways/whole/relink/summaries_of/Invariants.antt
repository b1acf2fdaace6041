use Rattle.std.proofs.Common.{◌≡◌, map, take}
use Rattle.snl_kept.proofs.ways.whole.relink.summaries_of.Given as goal

-- the summaries so far
abbrev pub invariant-loop-entry : goal.invariant-loop-entry
invariant-loop-entry l = map (λ s. s.now) l.summaries.items ≡ map (λ e. e.summary) (take l.entry-index l.made)
