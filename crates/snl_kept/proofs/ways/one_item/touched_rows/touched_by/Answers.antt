use Rattle.std.proofs.Common.{All, sym, subst}
use Rattle.snl_lex.specs.Pieces.{LiesIn}
use Rattle.snl_kept.proofs.OneItem.{own_lie}
use Rattle.snl_kept.proofs.ways.one_item.touched_rows.touched_by.Goals as goal

pub says_alike-requires-clause-was_within : goal.says_alike-requires-clause-was_within
says_alike-requires-clause-was_within c =
    let old = c.args.one.now.editing.edit.now.old.now in
    subst (All (LiesIn old)) (sym c.requires.one.own.was) (own_lie old c.args.one.now.editing.changes.now.items.kept_front (c.text_in_pieces.ensures.inside old))

pub says_alike-requires-clause-is_within : goal.says_alike-requires-clause-is_within
says_alike-requires-clause-is_within c =
    let text = c.args.one.now.editing.edit.now.text.now in
    subst (All (LiesIn text)) (sym c.requires.one.own.is) (own_lie text c.args.one.now.editing.changes.now.items.kept_front (c.text_in_pieces.ensures.inside text))
