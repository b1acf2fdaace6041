use Rattle.std.proofs.Common.{◌++◌, ◌∙◌, ap}
use Rattle.snl_hear.specs.Requests.{query_of}
use Rattle.snl_replies.specs.Replies.{Reply, framed_reply}
use Rattle.snl_docs.proofs.Asked.{answered_found, answered_missed}
use Rattle.snl_docs.proofs.answers.answer.Goals as goal

pub returns-in_ok-answer_of-in-Some : goal.returns-in_ok-answer_of-in-Some
returns-in_ok-answer_of-in-Some g c =
    c.in_ok-answer_of-in-Some.ensures ∙ ap (λ (r : Reply). c.args.said.now.items ++ framed_reply r)
    (answered_found g.C.CheckedText.says c.args.encoding c.args.documents.now _ c.args.uri.now
    (query_of c.args.question) _
    c.in-Some.ensures)

pub returns-in_ok-say_error-in-None : goal.returns-in_ok-say_error-in-None
returns-in_ok-say_error-in-None g c =
    c.in_ok-say_error-in-None.ensures ∙ ap (λ (r : Reply). c.args.said.now.items ++ framed_reply r)
    (answered_missed g.C.CheckedText.says c.args.encoding c.args.documents.now _ c.args.uri.now
    (query_of c.args.question)
    c.in-None.ensures)
