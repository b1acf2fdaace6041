use Rattle.std.proofs.Common.{take}
use Rattle.std.specs.List.{flat_map}
use Rattle.snl_listing.specs.Lister.{IsReady}
use Rattle.snl_listing.specs.Listing.{state_text}
use Rattle.snl_listing.proofs.states.put_states.Given as goal

-- the states so far were put
abbrev pub invariant-loop-state : goal.invariant-loop-state
invariant-loop-state g l = record {
  took : g.S.Sink.Took l.initial.sink l.sink (flat_map (state_text l.text l.tables) (take l.state-index l.states));
  ready : IsReady l.tables l.marks;
}
