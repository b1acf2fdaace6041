use Rattle.std.proofs.Common.{◌<◌, length, arith}
use Rattle.std.proofs.lemmas.List.{get_or_default}
use Rattle.std.proofs.lemmas.List.Edits.{map_over_more}
use Rattle.snl_kept.specs.Shifted.{shifted_finding}
use Rattle.snl_kept.proofs.found.own_findings.shift_findings.Goals as goal

pub loop-finding-preserved : goal.loop-finding-preserved
loop-finding-preserved c =
    let f = shifted_finding c.args.shift in
    let i = c.loop-finding.finding-index in
    let within : i < length c.loop-finding.found = omega arith in
    rw c.shifted_finding.ensures (map_over_more f c.args.found.now c.loop-finding.found i _ c.loop-finding-test.true c.loop-finding.invariant (get_or_default c.loop-finding.found i _ _ within))
