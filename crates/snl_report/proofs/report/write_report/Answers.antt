use Rattle.std.proofs.Common.{◌∙◌}
use Rattle.std.proofs.lemmas.Result.{MatchResult-from_err}
use Rattle.snl_script.specs.SaidLaws.{AppendsPart-after, AppendsPart-same}
use Rattle.snl_report.specs.Reports.{report_of}
use Rattle.snl_report.proofs.ReportLemmas.{page_made}
use Rattle.snl_report.proofs.report.write_report.Goals as goal

pub returns-in_err-finish-clause-written : goal.returns-in_err-finish-clause-written
returns-in_err-finish-clause-written g c =
    let said = c.in_ok-say_report.ensures.said in
    let part = AppendsPart-after _ _ _ said.written _ said.grown c.in_err-finish.ensures.written in
    let whole = AppendsPart-same _ _ _ _ (said.all ∙ page_made _ (report_of c.args.style c.args.name.now c.args.session.now) c.new-page.ensures) part in
    MatchResult-from_err c.from_residual-in_err-finish.result _ _ c.from_residual-in_err-finish.ensures.0 (λ _. whole)
