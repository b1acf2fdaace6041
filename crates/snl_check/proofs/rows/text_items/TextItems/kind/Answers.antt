use Rattle.snl_check.proofs.Items.{kind_here, kind_past}
use Rattle.snl_check.proofs.rows.text_items.TextItems.kind.Goals as goal

pub returns-then-item-self : goal.returns-then-item-self
returns-then-item-self c = kind_here c.args.self.now c.args.item c.requires c.if-item-self.true

pub returns-else-item-self : goal.returns-else-item-self
returns-else-item-self c = kind_past c.args.self.now c.args.item c.requires c.if-item-self.false
