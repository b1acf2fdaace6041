use Rattle.std.proofs.Common.{arith, ◌^◌, ◌<◌, length, ap, ◌∙◌}
use Rattle.snl_cut.specs.Cut.{after_ticks}
use Rattle.snl_kept.proofs.Ticks.{exact_ticks}
use Rattle.snl_kept.proofs.ways.whole.whole_plan.whole_of_many.Goals as goal

pub whole_plan-requires-clause-parsed : goal.whole_plan-requires-clause-parsed
whole_plan-requires-clause-parsed c =
    let parsed = c.args.editing.now.changes.now.items.made in
    let few_parsed : length parsed.items < 2 ^ 64 = omega (arith, parsed.ok, parsed.small) in
    c.ticks-parsed.ensures ∙ c.in_ok-made.ensures.ticks ∙ ap (λ n. after_ticks n (length parsed.items)) c.new-parsed.ensures ∙ exact_ticks (length parsed.items) few_parsed
    ∙ ap length c.requires.editing.changes.items.fresh
