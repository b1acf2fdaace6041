use Rattle.std.proofs.Common.{◌≡◌, length, ap, ◌∙◌, arith}
use Rattle.snl_check.specs.Collected.{items_in}
use Rattle.snl_check.specs.Settings.{gathered, setting_at}
use Rattle.snl_check.proofs.Items.{count_in}
use Rattle.snl_check.proofs.rows.option_rows.program_settings.Goals as goal

pub returns : goal.returns
returns c =
    let p = c.args.row_source.now.program in
    let xs = items_in p in
    let all : c.loop-item.item ≡ length xs = omega (arith, count_in p c.requires.program, c.loop-item.auto.item-end, c.loop-item-test.false) in
    c.loop-item.invariant ∙ ap (gathered (setting_at p.text.now xs c.args.row_source.now.links.now.outlines)) all
