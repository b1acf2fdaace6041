use Rattle.snl_script.specs.SaidLaws.{AppendsPart-on, AppendsPart-same, Said-err, Said-part, Says-on, Says-same}
use Rattle.std.proofs.Common.{refl}
use Rattle.snl_kept.specs.Diagnostics.{errors_of, warnings_of}
use Rattle.snl_report.proofs.ReportLemmas.{report_made}
use Rattle.snl_report.proofs.report.say_report.Goals as goal

pub returns-in_err-say_blocks-clause-said : goal.returns-in_err-say_blocks-clause-said
returns-in_err-say_blocks-clause-said g c =
    let whole = report_made c.args.style c.args.page.now c.args.name.now c.text.result.now c.args.session.now (errors_of c.args.session.now) (warnings_of c.args.session.now) c.text.ensures.text refl refl in
    Said-part c.from_residual.result _ _ _ _ _ _ c.from_residual.ensures.0 whole c.in_err-say_blocks.ensures.said

pub returns-in_err-say_sum-clause-said : goal.returns-in_err-say_sum-clause-said
returns-in_err-say_sum-clause-said g c =
    let whole = report_made c.args.style c.args.page.now c.args.name.now c.text.result.now c.args.session.now c.errors.result c.warnings.result c.text.ensures.text c.errors.ensures c.warnings.ensures in
    let part = AppendsPart-on _ _ _ _ _ _ c.in_ok-say_blocks.ensures.said c.in_err-say_sum.ensures.said in
    Said-err c.from_residual-in_err-say_sum.result _ _ _ _ c.from_residual-in_err-say_sum.ensures.0 (AppendsPart-same _ _ _ _ whole part)

pub returns-clause-said : goal.returns-clause-said
returns-clause-said g c =
    let whole = report_made c.args.style c.args.page.now c.args.name.now c.text.result.now c.args.session.now c.errors.result c.warnings.result c.text.ensures.text c.errors.ensures c.warnings.ensures in
    Says-same _ _ _ _ _ whole (Says-on _ _ _ _ _ _ _ c.in_ok-say_blocks.ensures.said c.in_ok-say_sum.ensures.said)
