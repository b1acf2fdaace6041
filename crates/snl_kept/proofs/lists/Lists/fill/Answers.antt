use Rattle.snl_lex.specs.Edit.{edit_of}
use Rattle.snl_kept.proofs.ListedTexts.{listed}
use Rattle.snl_kept.proofs.lists.Lists.fill.Goals as goal

pub returns : goal.returns
returns c =
    listed _ _ _ c.put_items.ensures.items
    (c.take_places.ensures.places (edit_of c.args.edit.now) c.requires.nothing c.requires.changes c.requires.lines)
    c.take_places.ensures.items
