use Rattle.std.proofs.Common.{[], refl, arith}
use Rattle.snl_replies.specs.ReplyLaws.{said_none}
use Rattle.snl_document.proofs.Losing.{lost_more, said_more}
use Rattle.snl_document.proofs.documents.lose_all.Goals as goal

pub loop-document-init : goal.loop-document-init
loop-document-init g c =
    record { documents = refl; said = said_none c.args.said.now.items [] refl }

pub loop-document-preserved : goal.loop-document-preserved
loop-document-preserved g c = record {
  documents = lost_more c.args.documents.now c.loop-document.document-items
      c.loop-document.document-index c.document-item.result c.lose.new.self (omega arith)
      c.loop-document.invariant.documents c.document-item.is c.in_ok-lose.ensures.state;
  said = said_more g.C.CheckedText.says c.args.encoding c.args.documents.now
      c.loop-document.document-items
      c.loop-document.document-index c.document-item.result c.args.said.now.items
      c.loop-document.said.items c.lose.new.said.items (omega arith)
      c.loop-document.invariant.documents c.loop-document.invariant.said
      c.in_ok-lose.ensures.said;
}
