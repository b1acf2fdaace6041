use Rattle.std.proofs.Common.{take}
use Rattle.std.specs.List.{flat_map}
use Rattle.snl_listing.specs.Lister.{IsReady}
use Rattle.snl_listing.specs.Listing.{set_text}
use Rattle.snl_listing.proofs.states.put_state_sets.Given as goal

-- the state sets so far were put
abbrev pub invariant-loop-set : goal.invariant-loop-set
invariant-loop-set g l = record {
  took : g.S.Sink.Took l.initial.sink l.sink (flat_map (set_text l.text l.tables) (take l.set-index l.sets));
  ready : IsReady l.tables l.marks;
}
