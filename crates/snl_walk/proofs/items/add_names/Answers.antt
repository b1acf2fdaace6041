use Rattle.std.proofs.Common.{refl, ℕ, List, false, map}
use Rattle.snl_walk.specs.Statements.{declaration_at}
use Rattle.snl_walk.specs.Tokens.{token_bytes}
use Rattle.snl_facts.specs.Lists.{at_end}
use Rattle.snl_walk.proofs.items.add_names.Goals as goal

pub returns : goal.returns
returns c = at_end (λ (ns : List ℕ). map (declaration_at (token_bytes c.args.source.now.text.now c.args.source.now.tokens.now) c.args.names.now false) ns) refl c.args.tokens.now c.loop-token.token-index c.loop-token.found.items _ c.loop-token-test.false c.loop-token.invariant
