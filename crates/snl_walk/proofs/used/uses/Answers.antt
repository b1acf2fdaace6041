use Rattle.std.proofs.Common.{◌∙◌, ap, sym, refl}
use Rattle.snl_walk.specs.declared.occurrence.Occurrence.{Occurrence}
use Rattle.snl_walk.specs.Uses.{is_use, uses}
use Rattle.snl_facts.specs.Lists.{at_end}
use Rattle.snl_walk.proofs.Loops.{one_kept, one_left_out}
use Rattle.snl_walk.proofs.used.uses.Goals.{then-is_use+in_ok-push, else-is_use}
use Rattle.snl_walk.proofs.used.uses.Goals as goal

pub loop-occurrence-preserved : goal.loop-occurrence-preserved
loop-occurrence-preserved c =
    elim c.if-is_use.branch [
      | then-is_use+in_ok-push w ↦
          one_kept (λ (o : Occurrence). is_use o.what) (λ (o : Occurrence). o.token) c.args.found.now c.loop-occurrence.occurrence-index _ c.loop-occurrence.tokens.items _ _ c.loop-occurrence-test.true
          (sym c.is_use.ensures ∙ w.if-is_use.true) c.loop-occurrence.invariant (ap (λ v. v.items) w.tokens-is ∙ w.in_ok-push.ensures.items)
      | else-is_use w ↦
          one_left_out (λ (o : Occurrence). is_use o.what) (λ (o : Occurrence). o.token) c.args.found.now c.loop-occurrence.occurrence-index _ c.loop-occurrence.tokens.items _ _ c.loop-occurrence-test.true
          (sym c.is_use.ensures ∙ w.if-is_use.false) c.loop-occurrence.invariant (ap (λ v. v.items) w.tokens-is)
    ]

pub returns : goal.returns
returns c = at_end uses refl c.args.found.now c.loop-occurrence.occurrence-index c.loop-occurrence.tokens.items _ c.loop-occurrence-test.false c.loop-occurrence.invariant
