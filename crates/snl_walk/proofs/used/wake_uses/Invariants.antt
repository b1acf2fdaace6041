use Rattle.std.proofs.Common.{◌≡◌, ◌++◌, drop}
use Rattle.snl_walk.specs.Tokens.{token_bytes}
use Rattle.snl_walk.specs.Uses.{wake_uses}
use Rattle.snl_walk.proofs.used.wake_uses.Given as goal

abbrev pub invariant-loop-occurrence : goal.invariant-loop-occurrence
invariant-loop-occurrence l =
    l.uses.items ++ wake_uses (token_bytes l.source.text.now l.source.tokens.now) (drop l.occurrence-index l.found)
    ≡ wake_uses (token_bytes l.source.text.now l.source.tokens.now) l.found
