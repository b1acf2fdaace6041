use Rattle.std.proofs.Common.{◌≡◌, ◌++◌, drop}
use Rattle.snl_walk.specs.Uses.{target_uses, target_uses_after}
use Rattle.snl_walk.proofs.used.target_uses.Given as goal

-- the uses so far and those at the rest are those at all
abbrev pub invariant-loop-occurrence : goal.invariant-loop-occurrence
invariant-loop-occurrence l = l.uses.items ++ target_uses_after l.by_statement (drop l.occurrence-index l.found) ≡ target_uses l.found
