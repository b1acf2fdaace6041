use Rattle.std.proofs.Common.{rules}
use Rattle.snl_run.specs.Answers.{line_text}
use Rattle.snl_run.proofs.SaidLemmas.{AppendsPart-on, Said-part, Says-on, Says-same, pieces-all, pieces-more}
use Rattle.snl_run.proofs.answers.put_lines.Goals as goal

pub loop-diagnostic-preserved : goal.loop-diagnostic-preserved
loop-diagnostic-preserved g c = record {
  said = Says-same _ _ _ _ _ (pieces-more (line_text c.args.text.now) c.args.page.now c.args.diagnostics.now c.loop-diagnostic.diagnostic-index _ c.loop-diagnostic-test.true) (Says-on _ _ _ _ _ _ _ c.loop-diagnostic.invariant.said c.in_ok-put_line.ensures.said);
  failed = search rules;
}

pub returns-in_err-put_line-clause-said : goal.returns-in_err-put_line-clause-said
returns-in_err-put_line-clause-said g c =
    let part = AppendsPart-on _ _ _ _ _ _ c.loop-diagnostic.invariant.said c.in_err-put_line.ensures.said in
    Said-part c.from_residual.result _ _ _ _ _ _ c.from_residual.ensures.0 (pieces-all (line_text c.args.text.now) c.args.page.now c.args.diagnostics.now c.loop-diagnostic.diagnostic-index _ c.loop-diagnostic-test.true) part
