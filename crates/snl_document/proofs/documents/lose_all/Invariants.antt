use Rattle.std.proofs.Common.{◌≡◌, ◌++◌, drop, map, take}
use Rattle.snl_document.specs.Documents.{lost}
use Rattle.snl_replies.specs.Replies.{said_of}
use Rattle.snl_document.specs.Told.{told_of_all}
use Rattle.snl_document.proofs.documents.lose_all.Given as goal

abbrev pub invariant-loop-document : goal.invariant-loop-document
invariant-loop-document g l = record {
  documents : l.document-items
      ≡ map lost (take l.document-index l.fn.documents) ++ drop l.document-index l.fn.documents;
  said : l.said.items ≡ l.fn.said.items
      ++ said_of (told_of_all g.C.CheckedText.says l.encoding
      (take l.document-index l.fn.documents));
}
