use Rattle.std.proofs.Common.{◌∙◌, ap, sym, Some}
use Rattle.snl_document.specs.Documents.{Doc}
use Rattle.snl_document.proofs.Named.{found_at_number, found_nowhere}
use Rattle.snl_document.proofs.documents.document_of.Goals as goal

pub returns-in-Some : goal.returns-in-Some
returns-in-Some g c =
    ap (λ (d : Doc). Some d) c.index-documents-at.is
    ∙ sym (found_at_number c.args.uri.now c.args.documents.now c.in-Some.at
    c.index-documents-at.result (sym c.find.ensures ∙ c.in-Some.is))

pub returns-in-None : goal.returns-in-None
returns-in-None g c =
    sym (found_nowhere c.args.uri.now c.args.documents.now (sym c.find.ensures ∙ c.in-None.is))
