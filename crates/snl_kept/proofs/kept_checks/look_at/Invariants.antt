use Rattle.std.proofs.Common.{◌≡◌, drop, map}
use Rattle.snl_kept.specs.NewChecks.{put}
use Rattle.snl_kept.proofs.kept_checks.look_at.Given as goal

abbrev pub invariant-loop-one : goal.invariant-loop-one
invariant-loop-one l = put (map (λ c. c.now) l.checks.items) (drop l.one-index l.made) ≡ put (map (λ c. c.now) l.initial.checks.items) l.made
