use Rattle.std.proofs.Common.{take}
use Rattle.std.specs.List.{flat_map}
use Rattle.snl_listing.specs.Listing.{goto_line}
use Rattle.snl_listing.proofs.states.put_gotos.Given as goal

-- the rows so far were put
abbrev pub invariant-loop-target : goal.invariant-loop-target
invariant-loop-target g l = g.S.Sink.Took l.initial.sink l.sink (flat_map (goto_line l.text) (take l.target-index l.targets))
