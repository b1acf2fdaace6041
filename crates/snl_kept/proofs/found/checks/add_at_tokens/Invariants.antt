use Rattle.std.proofs.Common.{◌≡◌, ◌++◌, drop, map}
use Rattle.snl_kept.specs.Checked.{at_own_token}
use Rattle.snl_kept.proofs.found.checks.add_at_tokens.Given as goal

abbrev pub invariant-loop-fault : goal.invariant-loop-fault
invariant-loop-fault l = l.found.items ++ map (at_own_token l.own) (drop l.fault-index l.faults) ≡ l.initial.found.items ++ map (at_own_token l.own) l.faults
