use Rattle.std.proofs.Common.{◌≡◌, ◌-◌, ◌++◌, drop, take, map}
use Rattle.snl_kept.proofs.values.add_kept.Given as goal

abbrev pub invariant-loop-number : goal.invariant-loop-number
invariant-loop-number g l = map (λ v. v.now) l.values.items ≡ map (λ v. v.now) l.initial.values.items ++ take (l.number - l.from) (drop l.from l.kept.values)
