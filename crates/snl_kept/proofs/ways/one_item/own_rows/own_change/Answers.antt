use Rattle.snl_kept.proofs.MadeRows.{own_state}
use Rattle.snl_kept.proofs.ways.one_item.own_rows.own_change.Goals as goal

pub body_change-requires-clause-made : goal.body_change-requires-clause-made
body_change-requires-clause-made c = own_state c.args.one.now c.args.entry.now c.args.check.now c.requires.made
