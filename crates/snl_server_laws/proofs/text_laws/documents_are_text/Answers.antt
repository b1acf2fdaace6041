use Rattle.snl_server_laws.proofs.TextDocs.{documents_text}
use Rattle.snl_server_laws.proofs.text_laws.documents_are_text.Goals as goal

pub returns : goal.returns
returns c = λ turns.
    documents_text (λ encoding text new start stop h k.
    c.edits_keep_text.ensures encoding text new start stop h k) turns c.messages_are_text.ensures
