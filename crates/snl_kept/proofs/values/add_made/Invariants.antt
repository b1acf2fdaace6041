use Rattle.std.proofs.Common.{◌≡◌, ◌++◌, take, map}
use Rattle.snl_kept.proofs.values.add_made.Given as goal

abbrev pub invariant-loop-value : goal.invariant-loop-value
invariant-loop-value g l = map (λ v. v.now) l.values.items ≡ map (λ v. v.now) l.initial.values.items ++ take l.value-index l.made
