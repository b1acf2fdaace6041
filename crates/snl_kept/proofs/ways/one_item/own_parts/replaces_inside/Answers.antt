use Rattle.snl_lex.specs.Edit.{edit_of}
use Rattle.snl_kept.proofs.InsideMade.{is_inside}
use Rattle.snl_kept.proofs.ways.one_item.own_parts.replaces_inside.Goals as goal

pub returns-clause-inside : goal.returns-clause-inside
returns-clause-inside c =
    let edit = c.args.one.now.editing.edit.now in
    is_inside (edit_of edit) c.args.one.now.editing.changes.now c.args.one.now.shift c.args.was c.args.made.now c.requires.one.editing.changes edit.edit c.requires.one.by c.requires.one.lines c.requires.one.one c.requires.was c.requires.alone c.requires.place c.requires.seen

pub returns-clause-replaced : goal.returns-clause-replaced
returns-clause-replaced c =
    let edit = c.args.one.now.editing.edit.now in
    c.one_item_replaced.ensures (edit_of edit) c.args.one.now.editing.changes.now c.args.one.now.shift c.args.was.entry.now c.args.made.now
    (is_inside (edit_of edit) c.args.one.now.editing.changes.now c.args.one.now.shift c.args.was c.args.made.now c.requires.one.editing.changes edit.edit c.requires.one.by c.requires.one.lines c.requires.one.one c.requires.was c.requires.alone c.requires.place c.requires.seen)
