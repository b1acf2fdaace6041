use Rattle.std.proofs.Common.{refl, ℕ, List, map}
use Rattle.snl_walk.specs.Rules.{finding}
use Rattle.snl_codes.specs.declared.code.Code.TheVariants.{W01}
use Rattle.snl_facts.specs.Lists.{at_end}
use Rattle.snl_walk.proofs.rules.add_undeclared.Goals as goal

pub returns : goal.returns
returns c = at_end (λ (ns : List ℕ). map (λ n. finding n W01) ns) refl c.args.tokens.now c.loop-token.token-index c.loop-token.findings.items _ c.loop-token-test.false c.loop-token.invariant
