use Rattle.std.proofs.Common.{◌≡◌, ◌++◌, drop}
use Rattle.snl_walk.specs.Uses.{targets}
use Rattle.snl_walk.proofs.used.targets.Given as goal

abbrev pub invariant-loop-occurrence : goal.invariant-loop-occurrence
invariant-loop-occurrence l = l.tokens.items ++ targets (drop l.occurrence-index l.found) ≡ targets l.found
