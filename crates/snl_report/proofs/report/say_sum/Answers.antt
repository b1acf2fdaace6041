use Rattle.snl_script.specs.SaidLaws.{AppendsPart-on, AppendsPart-same, Said-err, Said-part, Says-on, Says-same}
use Rattle.snl_report.proofs.ReportLemmas.{sum_made}
use Rattle.snl_report.proofs.report.say_sum.Goals as goal

pub returns-in_err-put-clause-said : goal.returns-in_err-put-clause-said
returns-in_err-put-clause-said g c =
    let whole = sum_made c.args.page.now _ _ c.args.name.now c.args.errors c.args.warnings c.as_slice.ensures.value c.in_ok-put_name_alone.ensures in
    Said-part c.from_residual-in_err-put.result _ _ _ _ _ _ c.from_residual-in_err-put.ensures.0 whole c.in_err-put.ensures.said

pub returns-in_err-put_sum-clause-said : goal.returns-in_err-put_sum-clause-said
returns-in_err-put_sum-clause-said g c =
    let whole = sum_made c.args.page.now _ _ c.args.name.now c.args.errors c.args.warnings c.as_slice.ensures.value c.in_ok-put_name_alone.ensures in
    let part = AppendsPart-on _ _ _ _ _ _ c.in_ok-put.ensures.said c.in_err-put_sum.ensures.said in
    Said-err c.from_residual-in_err-put_sum.result _ _ _ _ c.from_residual-in_err-put_sum.ensures.0 (AppendsPart-same _ _ _ _ whole part)

pub returns-clause-said : goal.returns-clause-said
returns-clause-said g c =
    let whole = sum_made c.args.page.now _ _ c.args.name.now c.args.errors c.args.warnings c.as_slice.ensures.value c.in_ok-put_name_alone.ensures in
    Says-same _ _ _ _ _ whole (Says-on _ _ _ _ _ _ _ c.in_ok-put.ensures.said c.in_ok-put_sum.ensures.said)
