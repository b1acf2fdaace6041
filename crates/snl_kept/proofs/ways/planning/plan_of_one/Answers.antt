use Rattle.std.proofs.Common.{arith, ◌≡◌, ◌^◌, ◌<◌, IfSome, Option, length, ap, subst, sym, ◌∙◌}
use Rattle.snl_cut.specs.Cut.{after_ticks, ticked}
use Rattle.snl_kept.specs.declared.ways.one_item.item_plan.OwnPlan.{OwnPlan}
use Rattle.snl_kept.specs.Editing.{edit_in}
use Rattle.snl_kept.specs.ItemPlan.{IsOwnPlan, checks_made}
use Rattle.snl_kept.proofs.Ticks.{exact_ticks}
use Rattle.snl_kept.proofs.ways.planning.plan_of_one.Goals as goal

pub item_plan-requires-clause-cost : goal.item_plan-requires-clause-cost
item_plan-requires-clause-cost c =
    let editing = c.args.editing.now in
    let plan : OwnPlan = c.in-Some.plan in
    let made = plan.parts.checks.made in
    let few : length made.items < 2 ^ 64 = omega (arith, made.ok, made.small) in
    let ticks : c.made_and_planned.new.checked ≡ after_ticks c.new-checked.result (length made.items) =
    subst (λ (o : Option OwnPlan). c.made_and_planned.new.checked ≡ after_ticks c.new-checked.result (checks_made o)) c.in-Some.is c.in_ok-made.ensures.checked in
    let inside : IsOwnPlan (edit_in editing) editing.changes.now plan.links plan.parts =
    subst (λ (o : Option OwnPlan). IfSome o (λ p. IsOwnPlan (edit_in editing) editing.changes.now p.links p.parts)) c.in-Some.is c.in_ok-made.ensures.inside in
    record {
      lexed = c.requires.editing.lexed;
      parsed = c.ticks-parsed.ensures ∙ c.in_ok-made.ensures.parsed ∙ ap ticked c.new-parsed.ensures ∙ sym c.requires.one.one_made ∙ ap length c.requires.editing.changes.items.fresh;
      checked = c.ticks.ensures ∙ ticks ∙ ap (λ n. after_ticks n (length made.items)) c.new-checked.ensures ∙ exact_ticks (length made.items) few ∙ sym inside.parts.stirred;
    }
