use Rattle.std.proofs.Common.{◌≡◌, ◌++◌, drop}
use Rattle.snl_walk.specs.Uses.{uses}
use Rattle.snl_walk.proofs.used.uses.Given as goal

abbrev pub invariant-loop-occurrence : goal.invariant-loop-occurrence
invariant-loop-occurrence l = l.tokens.items ++ uses (drop l.occurrence-index l.found) ≡ uses l.found
