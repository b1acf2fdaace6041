use Rattle.snl_say.proofs.ItemText.{item_put}
use Rattle.snl_say.proofs.diagnostics.put_item.Goals as goal

pub returns : goal.returns
returns c =
    item_put c.args.later c.args.shown.now _ _ _ _ c.in_ok-put_front.ensures
    c.in_ok-put_escaped.ensures c.in_ok-put_end.ensures
