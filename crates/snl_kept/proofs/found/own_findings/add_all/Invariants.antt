use Rattle.std.proofs.Common.{◌≡◌, ◌++◌, take}
use Rattle.snl_kept.proofs.found.own_findings.add_all.Given as goal

abbrev pub invariant-loop-finding : goal.invariant-loop-finding
invariant-loop-finding l = l.found.items ≡ l.initial.found.items ++ take l.finding-index l.come
