use Rattle.snl_kept.proofs.InsideMade.{outlines_stay, sees_the_same}
use Rattle.snl_kept.proofs.ways.one_item.item_plan.says_the_same_to_all.Goals as goal

pub returns-clause-outlines : goal.returns-clause-outlines
returns-clause-outlines c =
    let edit = c.args.one.now.editing.edit.now in
    outlines_stay c.outcome_told.ensures.tree c.same_spelling_same_tree.ensures.by_spelling c.same_spelling_same_summary.ensures.summary_by_spelling c.same_spelling_same_summary.ensures.bytes_by_spelling
    edit.old.now edit.text.now c.args.one.now.editing.changes.now c.args.was c.args.made.now c.requires.one.one c.requires.was c.requires.alone c.requires.says.outline

pub returns-clause-seen : goal.returns-clause-seen
returns-clause-seen c =
    let edit = c.args.one.now.editing.edit.now in
    sees_the_same edit.old.now edit.text.now c.args.one.now.editing.changes.now.items.kept_front (returns-clause-outlines c)
