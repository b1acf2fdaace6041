use Rattle.std.proofs.Common.{sym, ap, ◌∙◌, arith}
use Rattle.std.specs.Option.{is_some}
use Rattle.snl_check.specs.Collected.{items_in}
use Rattle.snl_check.proofs.Items.{count_in, name_at, name_step, no_name}
use Rattle.snl_check.proofs.rows.text_items.TextItems.name.Goals as goal

pub returns-then-is_some : goal.returns-then-is_some
returns-then-is_some c =
    let xs = items_in c.args.self.now in
    let i = c.loop-item.item in
    c.header-name.ensures ∙ name_at xs i (omega (arith, count_in c.args.self.now c.requires, c.loop-item-test.true)) (ap is_some (sym c.header-name.ensures) ∙ sym c.is_some.ensures ∙ c.if-is_some.true)
    ∙ c.loop-item.invariant

pub loop-item-preserved : goal.loop-item-preserved
loop-item-preserved c =
    let xs = items_in c.args.self.now in
    let i = c.loop-item.item in
    sym (name_step xs i (omega (arith, count_in c.args.self.now c.requires, c.loop-item-test.true)) (ap is_some (sym c.header-name.ensures) ∙ sym c.is_some.ensures ∙ c.if-is_some.false))
    ∙ c.loop-item.invariant

pub returns : goal.returns
returns c =
    let xs = items_in c.args.self.now in
    sym (no_name xs c.loop-item.item (omega (arith, count_in c.args.self.now c.requires, c.loop-item-test.false))) ∙ c.loop-item.invariant
