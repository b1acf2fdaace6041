use Rattle.std.proofs.Common.{take}
use Rattle.snl_check.specs.Reach.{Enters}
use Rattle.snl_check.proofs.reachability.reaching.Search.enter_all.Given as goal

-- the search has come to the states so far
abbrev pub invariant-loop-state : goal.invariant-loop-state
invariant-loop-state l = Enters l.initial.self l.self (take l.state-index l.states)
