use Rattle.std.proofs.Common.{◌≡◌, map, take}
use Rattle.snl_scope.specs.Spoken.{bounds}
use Rattle.snl_scope.proofs.edited_names.bound_the_same.Given as goal

abbrev pub invariant-loop-number : goal.invariant-loop-number
invariant-loop-number l = bounds (map (λ s. s.now) (take l.number l.old)) ≡ bounds (map (λ s. s.now) (take l.number l.new))
