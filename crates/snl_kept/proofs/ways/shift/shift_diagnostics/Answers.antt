use Rattle.std.proofs.Common.{◌<◌, length, arith}
use Rattle.std.proofs.lemmas.List.{get_or_default}
use Rattle.std.proofs.lemmas.List.Edits.{map_over_more}
use Rattle.snl_kept.specs.Shifted.{shifted_diagnostic}
use Rattle.snl_kept.proofs.ways.shift.shift_diagnostics.Goals as goal

pub loop-diagnostic-preserved : goal.loop-diagnostic-preserved
loop-diagnostic-preserved c =
    let f = shifted_diagnostic c.args.shift in
    let i = c.loop-diagnostic.diagnostic-index in
    let within : i < length c.loop-diagnostic.found = omega arith in
    rw c.shifted_diagnostic.ensures (map_over_more f c.args.found.now c.loop-diagnostic.found i _ c.loop-diagnostic-test.true c.loop-diagnostic.invariant (get_or_default c.loop-diagnostic.found i _ _ within))
