use Rattle.snl_run.proofs.ListingLemmas.{page_listing}
use Rattle.snl_run.proofs.SaidLemmas.{AppendsPart-on, AppendsPart-same, Says-on, Written-err, Written-finished, Written-part}
use Rattle.snl_run.proofs.listing.put_to_the_end.Goals as goal

pub returns-in_err-write-clause-written : goal.returns-in_err-write-clause-written
returns-in_err-write-clause-written g c =
    let whole = page_listing c.args.paged.now.page c.args.session.now c.text.result.now c.tables.result.now _ c.requires.empty c.text.ensures.text c.tables.ensures.of_text in
    Written-part c.from_residual.result _ _ _ _ _ c.from_residual.ensures.0 whole c.in_err-write.ensures.part

pub returns-in_err-put-clause-written : goal.returns-in_err-put-clause-written
returns-in_err-put-clause-written g c =
    let whole = page_listing c.args.paged.now.page c.args.session.now c.text.result.now c.tables.result.now _ c.requires.empty c.text.ensures.text c.tables.ensures.of_text in
    Written-err c.from_residual-in_err-put.result _ _ _ c.from_residual-in_err-put.ensures.0 (AppendsPart-same _ _ _ _ whole (AppendsPart-on _ _ _ _ _ _ c.in_ok-write.ensures.says c.in_err-put.ensures.part))

pub returns-clause-written : goal.returns-clause-written
returns-clause-written g c =
    let whole = page_listing c.args.paged.now.page c.args.session.now c.text.result.now c.tables.result.now _ c.requires.empty c.text.ensures.text c.tables.ensures.of_text in
    Written-finished c.finish.result _ _ _ _ _ _ whole (Says-on _ _ _ _ _ _ _ c.in_ok-write.ensures.says c.in_ok-put.ensures.says) c.finish.ensures.written
