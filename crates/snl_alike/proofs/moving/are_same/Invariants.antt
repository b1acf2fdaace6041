use Rattle.std.proofs.Common.{◌≡◌, take}
use Rattle.snl_alike.proofs.moving.are_same.Given as goal

-- the values so far are the same
abbrev pub invariant-loop-number : goal.invariant-loop-number
invariant-loop-number g l = take l.number l.others ≡ take l.number l.ones
