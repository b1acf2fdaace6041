use Rattle.std.proofs.Common.{arith, length, is_some, ap, ◌∙◌}
use Rattle.snl_moved.specs.Quiet.{are_quiet}
use Rattle.snl_kept.proofs.InsideMade.{kept_outlines}
use Rattle.snl_kept.proofs.Members.{entries_count}
use Rattle.snl_kept.proofs.QuietItems.{outlines_before}
use Rattle.snl_kept.proofs.ways.whole.kept_rows.were_quiet.Goals as goal

pub after_kept-requires : goal.after_kept-requires
after_kept-requires c =
    let old = c.args.editing.now.edit.now.old.now in
    omega (arith, ap length c.requires.lists.entries, entries_count old, c.requires.changes.items.order)

pub returns : goal.returns
returns c =
    let old = c.args.editing.now.edit.now.old.now in
    let kept = kept_outlines c.outcome_told.ensures.tree c.same_spelling_same_tree.ensures.by_spelling c.same_spelling_same_summary.ensures.summary_by_spelling c.same_spelling_same_summary.ensures.bytes_by_spelling in
    c.is_some.ensures
    ∙ ap is_some c.after_kept.ensures
    ∙ ap are_quiet (outlines_before kept old c.args.editing.now.changes.now.items.kept_front c.args.editing.now.lists.now.entries.values c.requires.lists.entries)
