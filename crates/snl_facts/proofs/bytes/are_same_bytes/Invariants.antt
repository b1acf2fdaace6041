use Rattle.std.proofs.Common.{◌≡◌, take}
use Rattle.snl_facts.proofs.bytes.are_same_bytes.Given as goal

abbrev pub invariant-loop-at : goal.invariant-loop-at
invariant-loop-at l = take l.at l.left ≡ take l.at l.right
