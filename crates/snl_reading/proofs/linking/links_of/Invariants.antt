use Rattle.std.proofs.Common.{◌≡◌, take, map}
use Rattle.snl_reading.proofs.linking.links_of.Given as goal

abbrev pub invariant-loop-summary : goal.invariant-loop-summary
invariant-loop-summary l = map (λ s. s.now) l.all.items ≡ take l.summary-index l.summaries
