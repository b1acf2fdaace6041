use Rattle.std.proofs.Common.{arith, sym, ◌∙◌}
use Rattle.snl_facts.specs.Lists.{drop_here}
use Rattle.snl_kept.proofs.QuietItems.{all_quiet, next_noisy, next_quiet}
use Rattle.snl_kept.proofs.ways.whole.kept_rows.after_made.Goals as goal

pub loop-entry-preserved : goal.loop-entry-preserved
loop-entry-preserved c =
    let made = c.args.made.now in
    let n = c.loop-entry.entry-index in
    let here = c.entry-item.result in
    next_quiet made n c.loop-entry.next _ c.loop-entry.invariant here _ (drop_here made n here c.loop-entry-test.true c.entry-item.is) (sym c.after_entry.ensures ∙ c.in_ok-next.was)

pub returns-in_err-next : goal.returns-in_err-next
returns-in_err-next c =
    let made = c.args.made.now in
    let n = c.loop-entry.entry-index in
    let here = c.entry-item.result in
    c.from_residual.ensures ∙ next_noisy made n c.loop-entry.next _ c.loop-entry.invariant here (drop_here made n here c.loop-entry-test.true c.entry-item.is) (sym c.after_entry.ensures ∙ c.in_err-next.was)

pub returns : goal.returns
returns c = all_quiet c.args.made.now c.loop-entry.entry-index c.loop-entry.next _ c.loop-entry.invariant (omega (arith, c.loop-entry-test.false))
