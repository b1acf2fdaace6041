use Rattle.snl_docs.specs.Served.{start}
use Rattle.snl_server_laws.specs.Answered.{kept_after}
use Rattle.snl_server_laws.proofs.SoundReplies.{ReadsBack, replies_back}
use Rattle.snl_server_laws.proofs.text_laws.replies_read_back.Goals as goal

pub returns : goal.returns
returns c = λ says turns turn text_says.
    let laws : ReadsBack = record {
      publish = c.notices_read_back.ensures.publish;
      notice = c.notices_read_back.ensures.message;
      null_answer = c.answers_read_back.ensures.null_answer;
      initialize = c.answers_read_back.ensures.initialize;
      answer = c.answers_read_back.ensures.answer;
      failure = c.answers_read_back.ensures.error;
      failure_alone = c.answers_read_back.ensures.error_alone;
    } in
    replies_back says text_says (λ encoding text new first last h k.
    c.edits_keep_text.ensures encoding text new first last h k) laws (kept_after start turns) turn
    (c.messages_are_text.ensures turn) (c.documents_are_text.ensures turns)
