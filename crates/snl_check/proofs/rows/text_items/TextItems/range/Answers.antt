use Rattle.std.proofs.Common.{◌-◌, take, drop, slice_index, ap, ◌∙◌}
use Rattle.snl_check.proofs.Items.{own_at, own_past}
use Rattle.snl_check.proofs.rows.text_items.TextItems.range.Goals as goal

pub returns-then-item-self : goal.returns-then-item-self
returns-then-item-self c = own_past c.args.self.now c.args.item c.if-item-self.true

pub returns : goal.returns
returns c =
    let p = c.args.self.now in
    ap (λ s. take (slice_index p.ends.now c.args.item - s) (drop s p.tokens.now)) c.start.ensures.start ∙ own_at p c.args.item c.requires c.if-item-self.false
