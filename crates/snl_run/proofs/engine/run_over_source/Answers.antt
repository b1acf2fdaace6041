use Rattle.std.proofs.Common.{◌∙◌, ap, Err}
use Rattle.std.proofs.lemmas.Result.{err_from_is_err_and}
use Rattle.snl_run.proofs.RunLemmas.{Ran-nothing}
use Rattle.snl_run.proofs.engine.run_over_source.Goals as goal

pub returns-in_err-document-clause-ran : goal.returns-in_err-document-clause-ran
returns-in_err-document-clause-ran g c =
    let p = err_from_is_err_and c.from_residual.result c.from_residual.ensures.1 in
    Ran-nothing c.in_err-document.field-0.0 c.from_residual.result _ _ _ (p.1 ∙ ap Err p.2) c.in_err-document.ensures.err
