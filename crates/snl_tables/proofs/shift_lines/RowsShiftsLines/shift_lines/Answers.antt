use Rattle.std.proofs.Common.{◌≡◌, ◌<◌, ◌∙◌, ap, sym, length, arith}
use Rattle.std.proofs.lemmas.List.Edits.{map_over_more}
use Rattle.snl_tables.proofs.shift_lines.RowsShiftsLines.shift_lines.Goals as goal

pub loop-row-preserved : goal.loop-row-preserved
loop-row-preserved g c =
    let f = g.T.ShiftsLines.moved c.args.shift in
    let x = c.row-item.result in
    let rows = c.loop-row.row-items in
    let inside : c.loop-row.row-index < length c.args.self.now = omega (arith, ap length c.deref_mut-row-items.ensures.value, ap length c.self.view_is) in
    let shifted : c.shift_lines.new.self ≡ f x = c.shift_lines.ensures ∙ ap f (sym c.row-item.is) in
    rw shifted (map_over_more f c.args.self.now rows c.loop-row.row-index x inside c.loop-row.invariant c.row-item.is)
