use Rattle.std.proofs.Common.{◌≡◌, ◌++◌, drop, map, take}
use Rattle.snl_kept.specs.Shifted.{shifted_finding}
use Rattle.snl_kept.proofs.found.own_findings.shift_findings.Given as goal

abbrev pub invariant-loop-finding : goal.invariant-loop-finding
invariant-loop-finding l = l.found ≡ map (shifted_finding l.shift) (take l.finding-index l.fn.found) ++ drop l.finding-index l.fn.found
