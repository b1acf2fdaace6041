use Rattle.std.proofs.Common.{take}
use Rattle.snl_listing.specs.Listing.{numbered, when_line}
use Rattle.snl_listing.proofs.states.put_transitions.Given as goal

-- the rows so far were put
abbrev pub invariant-loop-number : goal.invariant-loop-number
invariant-loop-number g l = g.S.Sink.Took l.initial.sink l.sink (numbered (when_line l.text) 0 (take l.number l.transitions))
