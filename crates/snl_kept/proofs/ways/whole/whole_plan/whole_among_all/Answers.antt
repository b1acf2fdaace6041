use Rattle.snl_kept.specs.Editing.{edit_in, items_in}
use Rattle.snl_kept.proofs.ways.whole.whole_plan.whole_among_all.Goals as goal

pub returns : goal.returns
returns c = c.with_pieces.ensures (edit_in c.args.editing.now) (items_in c.args.editing.now) c.in_ok-plan.ensures c.in_ok-pieces.ensures
