use Rattle.std.proofs.Common.{refl}
use Rattle.snl_walk.specs.Uses.{wake_uses}
use Rattle.snl_walk.specs.Tokens.{token_bytes}
use Rattle.snl_facts.specs.Lists.{at_end}
use Rattle.snl_walk.proofs.used.wake_uses.Goals as goal

pub returns : goal.returns
returns c = at_end (wake_uses (token_bytes c.args.source.now.text.now c.args.source.now.tokens.now)) refl c.args.found.now c.loop-occurrence.occurrence-index c.loop-occurrence.uses.items _ c.loop-occurrence-test.false c.loop-occurrence.invariant
