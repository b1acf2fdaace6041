use Rattle.std.proofs.Common.{arith, ℕ, ◌-◌, Bool, Option, is_some, length, drop, option_and_then, ap, sym, ◌∙◌}
use Rattle.snl_moved.specs.Quiet.{quiet_along}
use Rattle.snl_kept.specs.ItemPlan.{outlines_kept}
use Rattle.snl_kept.proofs.InsideMade.{kept_outlines}
use Rattle.snl_kept.proofs.Members.{entries_count}
use Rattle.snl_kept.proofs.QuietItems.{quiet_now}
use Rattle.snl_kept.proofs.ways.whole.kept_rows.are_quiet_now.Goals as goal

pub overflow_sub-back : goal.overflow_sub-back
overflow_sub-back c =
    let old = c.args.editing.now.edit.now.old.now in
    omega (arith, c.len.ensures, ap length c.requires.editing.lists.entries, entries_count old, c.requires.editing.changes.items.order)

pub returns-in-Some : goal.returns-in-Some
returns-in-Some c =
    let old = c.args.editing.now.edit.now.old.now in
    let text = c.args.editing.now.edit.now.text.now in
    let items = c.args.editing.now.changes.now.items in
    let made = c.args.made.now in
    let values = c.args.editing.now.lists.now.entries.values in
    let n = c.len.result - items.kept_back in
    let kept = kept_outlines c.outcome_told.ensures.tree c.same_spelling_same_tree.ensures.by_spelling c.same_spelling_same_summary.ensures.summary_by_spelling c.same_spelling_same_summary.ensures.bytes_by_spelling in
    let now = quiet_now kept old text items.kept_front items.kept_back n made values (omega (arith, c.requires.editing.changes.items.order)) c.requires.editing.lists.entries (ap (λ (k : ℕ). k - items.kept_back) c.len.ensures) c.requires.made in
    c.is_some.ensures
    ∙ ap is_some c.after_kept.ensures
    ∙ ap (λ (o : Option Bool). is_some (option_and_then (λ next. quiet_along next (outlines_kept (drop n values))) o)) (sym c.in-Some.is ∙ c.after_made.ensures)
    ∙ ap is_some (sym now)

pub returns-in-None : goal.returns-in-None
returns-in-None c =
    let old = c.args.editing.now.edit.now.old.now in
    let text = c.args.editing.now.edit.now.text.now in
    let items = c.args.editing.now.changes.now.items in
    let made = c.args.made.now in
    let values = c.args.editing.now.lists.now.entries.values in
    let n = c.len.result - items.kept_back in
    let kept = kept_outlines c.outcome_told.ensures.tree c.same_spelling_same_tree.ensures.by_spelling c.same_spelling_same_summary.ensures.summary_by_spelling c.same_spelling_same_summary.ensures.bytes_by_spelling in
    let now = quiet_now kept old text items.kept_front items.kept_back n made values (omega (arith, c.requires.editing.changes.items.order)) c.requires.editing.lists.entries (ap (λ (k : ℕ). k - items.kept_back) c.len.ensures) c.requires.made in
    ap (λ (o : Option Bool). is_some (option_and_then (λ next. quiet_along next (outlines_kept (drop n values))) o)) (sym c.in-None.is ∙ c.after_made.ensures)
    ∙ ap is_some (sym now)
