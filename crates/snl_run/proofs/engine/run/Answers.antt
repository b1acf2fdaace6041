use Rattle.std.proofs.Common.{◌∙◌, ap, Err}
use Rattle.std.proofs.lemmas.Result.{err_from_is_err_and}
use Rattle.snl_run.proofs.RunLemmas.{Ran-nothing}
use Rattle.snl_run.proofs.engine.run.Goals as goal

pub returns-in_err-source-clause-ran : goal.returns-in_err-source-clause-ran
returns-in_err-source-clause-ran g c =
    let p = err_from_is_err_and c.from_residual.result c.from_residual.ensures.1 in
    Ran-nothing c.in_err-source.field-0.0 c.from_residual.result _ _ _ (p.1 ∙ ap Err p.2) c.in_err-source.ensures.err
