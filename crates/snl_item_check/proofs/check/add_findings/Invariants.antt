use Rattle.std.proofs.Common.{◌≡◌, ◌++◌, map, drop}
use Rattle.snl_item_check.specs.ItemFaults.{fault_of}
use Rattle.snl_item_check.proofs.check.add_findings.Given as goal

-- the findings so far and those at the rest are those at all
abbrev pub invariant-loop-finding : goal.invariant-loop-finding
invariant-loop-finding l = l.faults.items ++ map fault_of (drop l.finding-index l.findings) ≡ l.initial.faults.items ++ map fault_of l.findings
