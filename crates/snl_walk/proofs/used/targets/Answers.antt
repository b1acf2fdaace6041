use Rattle.std.proofs.Common.{◌∙◌, ap, sym, refl}
use Rattle.snl_walk.specs.declared.occurrence.Occurrence.{Occurrence}
use Rattle.snl_walk.specs.Uses.{is_target, targets}
use Rattle.snl_facts.specs.Lists.{at_end}
use Rattle.snl_walk.proofs.Loops.{one_kept, one_left_out}
use Rattle.snl_walk.proofs.used.targets.Goals.{then-is_target+in_ok-push, else-is_target}
use Rattle.snl_walk.proofs.used.targets.Goals as goal

pub loop-occurrence-preserved : goal.loop-occurrence-preserved
loop-occurrence-preserved c =
    elim c.if-is_target.branch [
      | then-is_target+in_ok-push w ↦
          one_kept (λ (o : Occurrence). is_target o.what) (λ (o : Occurrence). o.token) c.args.found.now c.loop-occurrence.occurrence-index _ c.loop-occurrence.tokens.items _ _ c.loop-occurrence-test.true
          (sym c.is_target.ensures ∙ w.if-is_target.true) c.loop-occurrence.invariant (ap (λ v. v.items) w.tokens-is ∙ w.in_ok-push.ensures.items)
      | else-is_target w ↦
          one_left_out (λ (o : Occurrence). is_target o.what) (λ (o : Occurrence). o.token) c.args.found.now c.loop-occurrence.occurrence-index _ c.loop-occurrence.tokens.items _ _ c.loop-occurrence-test.true
          (sym c.is_target.ensures ∙ w.if-is_target.false) c.loop-occurrence.invariant (ap (λ v. v.items) w.tokens-is)
    ]

pub returns : goal.returns
returns c = at_end targets refl c.args.found.now c.loop-occurrence.occurrence-index c.loop-occurrence.tokens.items _ c.loop-occurrence-test.false c.loop-occurrence.invariant
