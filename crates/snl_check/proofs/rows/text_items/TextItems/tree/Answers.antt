use Rattle.std.proofs.Common.{ap, sym, ◌∙◌}
use Rattle.std.specs.Option.{option_copied}
use Rattle.snl_check.proofs.Items.{tree_here, tree_past}
use Rattle.snl_check.proofs.rows.text_items.TextItems.tree.Goals as goal

pub returns-then-item-self : goal.returns-then-item-self
returns-then-item-self c =
    let p = c.args.self.now in
    ap option_copied (sym c.index-self-item.is) ∙ tree_here p c.args.item c.index-self-item.result c.requires c.if-item-self.true c.index-self-item.is

pub returns-else-item-self : goal.returns-else-item-self
returns-else-item-self c = tree_past c.args.self.now c.args.item c.requires c.if-item-self.false
