use Rattle.std.proofs.Common.{◌∙◌, ap, sym, refl}
use Rattle.snl_walk.specs.Uses.{target_uses_after}
use Rattle.snl_facts.specs.Lists.{at_end}
use Rattle.snl_walk.proofs.OccurrenceLoops.{no_target_there, target_there}
use Rattle.snl_walk.proofs.used.target_uses.Goals.{then-is_target+in_ok-push, else-is_target}
use Rattle.snl_walk.proofs.used.target_uses.Goals as goal

pub loop-occurrence-preserved : goal.loop-occurrence-preserved
loop-occurrence-preserved c =
    let i = c.loop-occurrence.occurrence-index in
    elim c.if-is_target.branch [
      | then-is_target+in_ok-push w ↦
          rw c.leads_on-by_statement.ensures
          (target_there c.args.found.now i _ c.loop-occurrence-test.true c.loop-occurrence.by_statement c.loop-occurrence.uses.items _ _ (sym c.is_target.ensures ∙ w.if-is_target.true) c.loop-occurrence.invariant
          (ap (λ v. v.items) w.uses-is ∙ w.in_ok-push.ensures.items))
      | else-is_target w ↦
          rw c.leads_on-by_statement.ensures
          (no_target_there c.args.found.now i _ c.loop-occurrence-test.true c.loop-occurrence.by_statement c.loop-occurrence.uses.items _ _ (sym c.is_target.ensures ∙ w.if-is_target.false) c.loop-occurrence.invariant
          (ap (λ v. v.items) w.uses-is))
    ]

pub returns : goal.returns
returns c = at_end (target_uses_after c.loop-occurrence.by_statement) refl c.args.found.now c.loop-occurrence.occurrence-index c.loop-occurrence.uses.items _ c.loop-occurrence-test.false c.loop-occurrence.invariant
