use Rattle.std.proofs.Common.{refl}
use Rattle.snl_kept.specs.Diagnostics.{errors_of, warnings_of}
use Rattle.snl_run.proofs.AnswerLemmas.{report_is}
use Rattle.snl_run.proofs.SaidLemmas.{AppendsPart-on, AppendsPart-same, Says-on, Written-err, Written-finished, Written-part}
use Rattle.snl_run.proofs.answers.report.Goals as goal

pub returns-in_err-put_lines-clause-written : goal.returns-in_err-put_lines-clause-written
returns-in_err-put_lines-clause-written g c =
    let whole = report_is c.new-page.result c.text.result.now c.args.session.now c.diagnostics.result.now (errors_of c.args.session.now) (warnings_of c.args.session.now) c.new-page.ensures c.text.ensures.text c.diagnostics.ensures.of_text refl refl in
    Written-part c.from_residual.result _ _ _ _ _ c.from_residual.ensures.0 whole c.in_err-put_lines.ensures.said

pub returns-in_err-put_sum-clause-written : goal.returns-in_err-put_sum-clause-written
returns-in_err-put_sum-clause-written g c =
    let whole = report_is c.new-page.result c.text.result.now c.args.session.now c.diagnostics.result.now c.errors.result c.warnings.result c.new-page.ensures c.text.ensures.text c.diagnostics.ensures.of_text c.errors.ensures c.warnings.ensures in
    let part = AppendsPart-on _ _ _ _ _ _ c.in_ok-put_lines.ensures.said c.in_err-put_sum.ensures.said in
    Written-err c.from_residual-in_err-put_sum.result _ _ _ c.from_residual-in_err-put_sum.ensures.0 (AppendsPart-same _ _ _ _ whole part)

pub returns-clause-written : goal.returns-clause-written
returns-clause-written g c =
    let whole = report_is c.new-page.result c.text.result.now c.args.session.now c.diagnostics.result.now c.errors.result c.warnings.result c.new-page.ensures c.text.ensures.text c.diagnostics.ensures.of_text c.errors.ensures c.warnings.ensures in
    Written-finished c.finish.result _ _ _ _ _ _ whole (Says-on _ _ _ _ _ _ _ c.in_ok-put_lines.ensures.said c.in_ok-put_sum.ensures.said) c.finish.ensures.written
