use Rattle.std.proofs.Common.{◌≡◌, ◌++◌, drop}
use Rattle.std.specs.List.{flat_map}
use Rattle.snl_kept.specs.Tables.{found_at_state}
use Rattle.snl_kept.proofs.found.walked.add_states.Given as goal

abbrev pub invariant-loop-state : goal.invariant-loop-state
invariant-loop-state l = l.found.items ++ flat_map found_at_state (drop l.state-index l.states) ≡ l.initial.found.items ++ flat_map found_at_state l.states
