use Rattle.std.proofs.Common.{sym, arith}
use Rattle.std.proofs.lemmas.Grind.{common_steps}
use Rattle.snl_document.proofs.Named.{put_found, put_missed}
use Rattle.snl_document.proofs.documents.put.Goals as goal

pub returns-in-Some : goal.returns-in-Some
returns-in-Some g c =
    sym (put_found _ _ _ _ _ _ c.requires c.deref.ensures.value c.find.ensures c.in-Some.is)

pub returns-in_ok-push-in-None : goal.returns-in_ok-push-in-None
returns-in_ok-push-in-None g c =
    let last = put_missed c.args.document c.args.uri.now c.args.documents.now.items
    c.deref.result.now c.find.result c.requires c.deref.ensures.value c.find.ensures
    c.in-None.is in
    grind (arith, common_steps, last)
