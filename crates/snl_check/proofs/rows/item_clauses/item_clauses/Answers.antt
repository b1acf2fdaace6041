use Rattle.std.proofs.Common.{◌≡◌, length, ap, ◌∙◌, arith}
use Rattle.snl_check.specs.Clauses.{item_clauses_before}
use Rattle.snl_check.specs.Collected.{items_in}
use Rattle.snl_check.proofs.Items.{count_in}
use Rattle.snl_check.proofs.rows.item_clauses.item_clauses.Goals as goal

pub returns : goal.returns
returns c =
    let xs = items_in c.args.program.now in
    let all : c.loop-item.item ≡ length xs = omega (arith, count_in c.args.program.now c.requires, c.loop-item.auto.item-end, c.loop-item-test.false) in
    c.loop-item.invariant ∙ ap (item_clauses_before xs) all
