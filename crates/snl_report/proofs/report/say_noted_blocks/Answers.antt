use Rattle.std.proofs.Common.{rules}
use Rattle.snl_report.specs.Reports.{noted_block}
use Rattle.snl_script.specs.SaidLaws.{AppendsPart-on, Said-part, Says-on, Says-same, pieces-all, pieces-more}
use Rattle.snl_report.proofs.report.say_noted_blocks.Goals as goal

pub loop-diagnostic-preserved : goal.loop-diagnostic-preserved
loop-diagnostic-preserved g c = record {
  said = Says-same _ _ _ _ _ (pieces-more (noted_block c.args.reported.style c.args.reported.name.now c.args.reported.text.now) c.args.page.now c.args.diagnostics.now c.loop-diagnostic.diagnostic-index _ c.loop-diagnostic-test.true) (Says-on _ _ _ _ _ _ _ c.loop-diagnostic.invariant.said c.in_ok-from.ensures.said);
  cursor = c.in_ok-from.ensures.cursor;
  failed = search rules;
}

pub returns-in_err-from-clause-said : goal.returns-in_err-from-clause-said
returns-in_err-from-clause-said g c =
    let part = AppendsPart-on _ _ _ _ _ _ c.loop-diagnostic.invariant.said c.in_err-from.ensures.said in
    Said-part c.from_residual.result _ _ _ _ _ _ c.from_residual.ensures.0 (pieces-all (noted_block c.args.reported.style c.args.reported.name.now c.args.reported.text.now) c.args.page.now c.args.diagnostics.now c.loop-diagnostic.diagnostic-index _ c.loop-diagnostic-test.true) part
