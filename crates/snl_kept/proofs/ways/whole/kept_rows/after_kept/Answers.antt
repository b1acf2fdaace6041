use Rattle.std.proofs.Common.{arith, ◌<◌, length, option_copied, sym, ap, ◌∙◌}
use Rattle.snl_kept.proofs.QuietItems.{all_quiet, got_here, next_noisy, next_quiet, none_missing}
use Rattle.snl_kept.proofs.ways.whole.kept_rows.after_kept.Goals as goal
use Rattle.snl_kept.proofs.ways.whole.kept_rows.after_kept.Goals.{in-Some+in_ok-next, in_default}

pub loop-number-preserved : goal.loop-number-preserved
loop-number-preserved c =
    let values = c.args.entries.now.values in
    let n = c.loop-number.number in
    let lt : n < length values = omega (arith, c.loop-number-test.true, c.len-number-end.ensures) in
    elim c.match-get.branch [
      | in-Some+in_ok-next w ↦
          rw w.next-is
          (next_quiet values n c.loop-number.next _ c.loop-number.invariant w.in-Some.entry.now _ (got_here values n w.in-Some.entry.now (sym c.get.ensures ∙ ap option_copied w.in-Some.is)) (sym w.after_entry.ensures ∙ w.in_ok-next.was))
      | in_default w ↦ absurd (none_missing values n lt (sym c.get.ensures ∙ ap option_copied w.in_default.is))
    ]

pub returns-in_err-next : goal.returns-in_err-next
returns-in_err-next c =
    let values = c.args.entries.now.values in
    let n = c.loop-number.number in
    c.from_residual.ensures ∙ next_noisy values n c.loop-number.next _ c.loop-number.invariant c.in-Some.entry.now (got_here values n c.in-Some.entry.now (sym c.get.ensures ∙ ap option_copied c.in-Some.is)) (sym c.after_entry.ensures ∙ c.in_err-next.was)

pub returns : goal.returns
returns c = all_quiet c.args.entries.now.values c.loop-number.number c.loop-number.next _ c.loop-number.invariant (omega (arith, c.len-number-end.ensures, c.loop-number-test.false))
