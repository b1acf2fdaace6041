use Rattle.std.proofs.Common.{refl, List, map}
use Rattle.snl_facts.specs.Lists.{at_end}
use Rattle.snl_walk.specs.declared.used.TargetUse.{TargetUse}
use Rattle.snl_check.specs.States.{by_statements, named_state}
use Rattle.snl_check.specs.ItemTokens.{own_tokens}
use Rattle.snl_check.proofs.rows.body.gotos.Goals as goal

pub returns : goal.returns
returns c =
    at_end (λ (ts : List TargetUse). map (named_state c.args.source.now.text.now (own_tokens c.args.source.now) c.args.links.now.outlines c.args.item) (by_statements ts)) refl c.args.targets.now c.loop-target.target-index c.loop-target.gotos.items _ c.loop-target-test.false c.loop-target.invariant
