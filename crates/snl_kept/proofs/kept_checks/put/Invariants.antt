use Rattle.std.proofs.Common.{◌≡◌}
use Rattle.std.specs.Vec.Iter.{into_iter_items}
use Rattle.snl_kept.specs.NewChecks.{put}
use Rattle.snl_kept.proofs.kept_checks.put.Given as goal

abbrev pub invariant-loop-one : goal.invariant-loop-one
invariant-loop-one l = put l.checks.values (into_iter_items l.one-iterator) ≡ put l.fn.checks.values l.fn.made.items
