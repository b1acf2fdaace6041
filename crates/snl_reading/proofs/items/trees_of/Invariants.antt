use Rattle.std.proofs.Common.{◌≡◌, vec_len}
use Rattle.snl_reading.proofs.items.trees_of.Given as goal

-- there are as many trees as ends so far
abbrev pub invariant-loop-end : goal.invariant-loop-end
invariant-loop-end l = vec_len l.trees ≡ l.end-index
