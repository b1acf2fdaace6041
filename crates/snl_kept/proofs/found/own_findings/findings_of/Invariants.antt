use Rattle.std.proofs.Common.{◌≡◌, map, take}
use Rattle.snl_kept.specs.Shifted.{finding_of}
use Rattle.snl_kept.proofs.found.own_findings.findings_of.Given as goal

abbrev pub invariant-loop-diagnostic : goal.invariant-loop-diagnostic
invariant-loop-diagnostic l = l.findings.items ≡ map finding_of (take l.diagnostic-index l.found)
