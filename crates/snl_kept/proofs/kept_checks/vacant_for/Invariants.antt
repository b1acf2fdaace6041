use Rattle.std.proofs.Common.{◌≡◌, take}
use Rattle.snl_kept.specs.NewChecks.{nones}
use Rattle.snl_kept.proofs.kept_checks.vacant_for.Given as goal

abbrev pub invariant-loop-end : goal.invariant-loop-end
invariant-loop-end l = l.vacant.items ≡ nones (take l._end-index l.ends)
