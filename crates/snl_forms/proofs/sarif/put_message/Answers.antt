use Rattle.std.specs.Prelude.{codes}
use Rattle.snl_forms.specs.Forms.{message_text, string_text}
use Rattle.snl_forms.proofs.Then.{and_then}
use Rattle.snl_forms.proofs.sarif.put_message.Goals as goal

pub returns : goal.returns
unfolding message_text
returns c =
    and_then c.args.out.now.items _ _
    (codes "\"message\": {\"text\": ") _
    c.in_ok-put_bytes.ensures
    (and_then c.put_bytes.new.out.items _ _
    (string_text c.args.words.now) _
    c.in_ok-put_string.ensures
    (c.in_ok-put_bytes-2.ensures))
