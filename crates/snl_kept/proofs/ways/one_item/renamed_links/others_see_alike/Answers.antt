use Rattle.std.proofs.Common.{List, ap, subst}
use Rattle.snl_scope.specs.Renamed.{ClausesAlike, IsRenamed}
use Rattle.snl_summary.specs.declared.summary.Outline.{Outline}
use Rattle.snl_kept.specs.declared.entries.Entry.{Entry}
use Rattle.snl_kept.specs.Checks.{outlines_in}
use Rattle.snl_kept.specs.RenamedItem.{AreUntouched}
use Rattle.snl_kept.proofs.RenamedItem.{sees_alike}
use Rattle.snl_kept.proofs.ways.one_item.renamed_links.others_see_alike.Goals as goal

pub returns : goal.returns
returns c =
    let editing = c.args.one.now.editing in
    let old = editing.edit.now.old.now in
    let text = editing.edit.now.text.now in
    let changes = editing.changes.now in
    let links = c.args.links.now in
    let others = subst (λ (es : List Entry). AreUntouched c.args.names.now changes.items.kept_front es) c.requires.one.editing.lists.entries c.requires.others in
    let clauses : ClausesAlike (outlines_in old) (outlines_in text) =
    subst (λ (ts : List Outline). ClausesAlike (outlines_in old) ts) (ap (λ l. l.outlines) c.requires.links)
    (subst (λ (ss : List Outline). ClausesAlike ss links.outlines) (ap (λ l. l.outlines) c.requires.one.editing.lists.links) c.requires.clauses) in
    let renamed : IsRenamed (outlines_in old) (outlines_in text) changes.items.kept_front c.args.was.entry.now.summary.outline c.args.made.now.summary.outline c.args.renaming =
    subst (λ (ts : List Outline). IsRenamed (outlines_in old) ts changes.items.kept_front c.args.was.entry.now.summary.outline c.args.made.now.summary.outline c.args.renaming) (ap (λ l. l.outlines) c.requires.links)
    (subst (λ (ss : List Outline). IsRenamed ss links.outlines changes.items.kept_front c.args.was.entry.now.summary.outline c.args.made.now.summary.outline c.args.renaming) (ap (λ l. l.outlines) c.requires.one.editing.lists.links) c.requires.renamed) in
    sees_alike c.outcome_told.ensures.tree c.same_spelling_same_tree.ensures.by_spelling c.same_spelling_same_summary.ensures.summary_by_spelling c.same_spelling_same_summary.ensures.bytes_by_spelling
    c.unspoken_names.ensures.views c.declared_anew.ensures.means c.named_anew.ensures.means c.named_anew.ensures.views c.tables_told_alike.ensures
    old text changes c.args.was c.args.made.now c.args.renaming c.args.names.now c.requires.one.one c.requires.was c.requires.alone renamed c.requires.names others c.requires.own clauses
