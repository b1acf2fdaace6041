use Rattle.std.proofs.Common.{◌≡◌, take}
use Rattle.snl_summary.proofs.same_values.are_same.Given as goal

abbrev pub invariant-loop-number : goal.invariant-loop-number
invariant-loop-number g l = take l.number l.ones ≡ take l.number l.others
