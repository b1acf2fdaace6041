use Rattle.std.proofs.Common.{List, ap, ap₂, ◌∙◌}
use Rattle.std.specs.List.{filter_map}
use Rattle.snl_lex.specs.declared.piece.Piece.{Piece}
use Rattle.snl_check.specs.Channels.{assigned_channels}
use Rattle.snl_check.specs.Collected.{items_in}
use Rattle.snl_check.specs.Conditions.{wake_ups}
use Rattle.snl_check.specs.Numbered.{wake_by}
use Rattle.snl_check.proofs.WakesByTable.{wakes_same}
use Rattle.snl_check.proofs.rows.wake_ups.wake_ups.Goals as goal

pub returns : goal.returns
returns c =
    let row_source = c.args.state_source.now.row_source in
    let text = row_source.program.text.now in
    let xs = items_in row_source.program in
    let ss = row_source.links.now.outlines in
    let held = c.args.state_source.now.numbers.now in
    let source = c.source-source.result in
    c.in_ok-wake.ensures
    ∙ ap₂ (λ t (ts : List Piece). filter_map (wake_by t ts ss held c.args.item) c.wake_uses-uses.result.now) c.source-source.ensures.text c.source-source.ensures.tokens
    ∙ wakes_same text xs ss (assigned_channels text xs ss) held c.args.item c.wake_uses-uses.result.now
    (λ some v l w. c.requires.numbered.each (record { variable = v; which = w }))
    ∙ ap (wake_ups text xs ss (assigned_channels text xs ss) c.args.item) c.wake_uses-uses.ensures
