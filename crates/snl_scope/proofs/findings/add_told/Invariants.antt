use Rattle.std.proofs.Common.{◌≡◌, ◌++◌, filter, take}
use Rattle.snl_scope.specs.Names.{told_by}
use Rattle.snl_scope.proofs.findings.add_told.Given as goal

-- those of the findings so far are added
abbrev pub invariant-loop-fault : goal.invariant-loop-fault
invariant-loop-fault l = l.faults.items ≡ l.initial.faults.items ++ filter (told_by l.kinds) (take l.fault-index l.repeated)
