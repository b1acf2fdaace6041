use Rattle.std.proofs.Common.{◌++◌, List, ℕ, ap}
use Rattle.snl_run.specs.Answers.{work_text}
use Rattle.snl_run.proofs.SaidLemmas.{AppendsPart-same, Written-err, Written-finished}
use Rattle.snl_run.proofs.answers.tell_work.Goals as goal

pub returns-in_err-put_counts-clause-written : goal.returns-in_err-put_counts-clause-written
returns-in_err-put_counts-clause-written g c =
    let whole = ap (λ (l : List ℕ). l ++ work_text c.args.work) c.new-page.ensures in
    Written-err c.from_residual.result _ _ _ c.from_residual.ensures.0 (AppendsPart-same _ _ _ _ whole c.in_err-put_counts.ensures.said)

pub returns-clause-written : goal.returns-clause-written
returns-clause-written g c =
    let whole = ap (λ (l : List ℕ). l ++ work_text c.args.work) c.new-page.ensures in
    Written-finished c.finish.result _ _ _ _ _ _ whole c.in_ok-put_counts.ensures.said c.finish.ensures.written
