use Rattle.std.proofs.Common.{Ok, ap, ◌∙◌}
use Rattle.snl_grammar.specs.Tokens.{ahead}
use Rattle.snl_grammar.specs.Reading.Items.{levels}
use Rattle.snl_syntax.proofs.item.item_in.Goals as goal

pub returns : goal.returns
returns c =
    let e = c.in_ok-item.ensures in
    e ∙ ap (λ m. Ok (c.in_ok-item.item, m)) (c.whole_items_end.ensures levels (ahead c.args.kinds.now 0) (ahead c.args.kinds.now c.in_ok-item._end) c.in_ok-item.item e)
