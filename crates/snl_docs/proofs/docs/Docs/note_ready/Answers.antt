use Rattle.std.proofs.Common.{arith}
use Rattle.std.proofs.lemmas.Grind.{common_steps}
use Rattle.snl_hear.specs.Notifications.{noted_of}
use Rattle.snl_docs.specs.Served.{told_by}
use Rattle.snl_replies.specs.ReplyLaws.{said_none}
use Rattle.snl_docs.proofs.docs.Docs.note_ready.Goals as goal

-- Where nothing is told, nothing is added.
pub returns-clause-said : goal.returns-clause-said
returns-clause-said g c =
    let none = said_none c.args.said.now.items
    (told_by g.C.CheckedText.says c.args.self.now.encoding c.args.self.now.docs
    (noted_of c.args.told)) in
    grind (arith, common_steps, none) steps 40000000
