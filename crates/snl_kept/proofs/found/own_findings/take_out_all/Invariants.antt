use Rattle.std.proofs.Common.{◌≡◌, drop}
use Rattle.snl_kept.specs.OwnFindings.{without}
use Rattle.snl_kept.proofs.found.own_findings.take_out_all.Given as goal

abbrev pub invariant-loop-finding : goal.invariant-loop-finding
invariant-loop-finding l = without (drop l.finding-index l.gone) l.found.items ≡ without l.gone l.initial.found.items
