use Rattle.snl_kept.proofs.Sides.{none_after}
use Rattle.snl_kept.proofs.ways.shift.numbers_whole_items.Goals as goal

pub returns-then-place-text : goal.returns-then-place-text
returns-then-place-text c _ = none_after c.args.place c.args.text.now (c.text_in_pieces.ensures.inside c.args.text.now) c.if-place-text.true

pub parts_none-requires-clause-front : goal.parts_none-requires-clause-front
parts_none-requires-clause-front c = c.tokens_in_front-before.ensures.front c.args.text.now c.requires.lists.ends c.requires.lists.kinds

pub parts_none-requires-clause-back : goal.parts_none-requires-clause-back
parts_none-requires-clause-back c = c.tokens_in_front-before.ensures.back c.args.text.now c.requires.lists.ends c.requires.lists.kinds
