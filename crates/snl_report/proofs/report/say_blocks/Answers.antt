use Rattle.snl_script.specs.SaidLaws.{Said-on, Said-part}
use Rattle.snl_report.proofs.ReportLemmas.{blocks_made}
use Rattle.snl_report.proofs.report.say_blocks.Goals as goal

pub returns-in_err-say_first_blocks-clause-said : goal.returns-in_err-say_first_blocks-clause-said
returns-in_err-say_first_blocks-clause-said g c =
    let whole = blocks_made c.args.reported.style c.args.page.now c.args.reported.name.now c.args.reported.text.now
    c.min.result _ _ _ _ c.min.ensures c.split_at.ensures.front c.split_at.ensures.back
    c.diagnostics-all.ensures.of_text in
    Said-part c.from_residual.result _ _ _ _ _ _ c.from_residual.ensures.0 whole
    c.in_err-say_first_blocks.ensures.said

pub returns-clause-said : goal.returns-clause-said
returns-clause-said g c =
    let whole = blocks_made c.args.reported.style c.args.page.now c.args.reported.name.now c.args.reported.text.now
    c.min.result _ _ _ _ c.min.ensures c.split_at.ensures.front c.split_at.ensures.back
    c.diagnostics-all.ensures.of_text in
    Said-on c.say_plain_blocks.result _ _ _ _ _ _ _ _ whole
    c.in_ok-say_first_blocks.ensures.said c.say_plain_blocks.ensures.said
