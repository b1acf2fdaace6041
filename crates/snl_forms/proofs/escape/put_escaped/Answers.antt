use Rattle.std.proofs.Common.{◌-◌, drop, length, arith}
use Rattle.std.proofs.lemmas.List.{length-drop, take_all}
use Rattle.snl_forms.proofs.Steps.{one_more}
use Rattle.snl_forms.proofs.escape.put_escaped.Goals as goal

pub loop-at-preserved : goal.loop-at-preserved
loop-at-preserved c =
    let bytes = c.args.bytes.now in
    let at = c.loop-at.at in
    one_more _ _ _ bytes _ c.args.how _ _ at (omega arith)
    (take_all (length bytes - at) (drop at bytes) (omega (arith, length-drop at bytes)))
    c.in_ok-inside.ensures.put c.in_ok-inside.ensures.inside c.loop-at.invariant
