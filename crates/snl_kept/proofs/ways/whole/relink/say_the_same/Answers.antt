use Rattle.std.proofs.Common.{arith, ◌≡◌, ◌-◌, length, take, drop, map, ap, sym, ◌∙◌}
use Rattle.std.proofs.Math.Seq.{take-length}
use Rattle.snl_kept.specs.ItemPlan.{outlines_kept}
use Rattle.snl_kept.proofs.KeptOutlines.{all_same, one_more}
use Rattle.snl_kept.proofs.ways.whole.relink.say_the_same.Goals as goal
use Rattle.snl_facts.specs.Lists.{drop_here}

pub loop-number-preserved : goal.loop-number-preserved
loop-number-preserved c =
    let made = c.args.made.now in
    let n = c.loop-number.number in
    let here = c.index-made-number.result in
    one_more (λ e. e.summary.outline) made c.args.entries.now.values c.args.front n here c.loop-number.invariant (drop_here made n here c.loop-number-test.true c.index-made-number.is)
    (c.says_the_same_at.ensures c.if-not-says_the_same_at.false)

pub returns : goal.returns
returns c = λ yes.
    let made = c.args.made.now in
    let n : c.loop-number.number ≡ length made = omega (arith, c.loop-number-test.false, c.loop-number.auto.number-end) in
    let many : c.loop-number.number ≡ c.args.back - c.args.front = n ∙ omega (arith, c.if-made-back.false) in
    all_same (λ e. e.summary.outline) c.args.front c.args.back made c.args.entries.now.values c.requires.order
    (ap (map (λ e. e.summary.outline)) (sym (take-length made) ∙ ap (λ k. take k made) (sym n)) ∙ c.loop-number.invariant ∙ ap (λ k. take k (drop c.args.front (outlines_kept c.args.entries.now.values))) many)
