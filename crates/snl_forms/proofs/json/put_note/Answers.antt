use Rattle.std.specs.Prelude.{codes}
use Rattle.snl_forms.specs.Forms.{at_of, members_text, note_text, string_text}
use Rattle.snl_forms.proofs.Then.{and_then}
use Rattle.snl_forms.proofs.json.put_note.Goals as goal

pub returns : goal.returns
unfolding note_text
returns c =
    and_then c.args.out.now.items _ _
    (codes ",\"notes\":[{") _
    c.in_ok-put_bytes.ensures
    (and_then c.put_bytes.new.out.items _ _
    (members_text (at_of c.args.other.place)) _
    c.in_ok-put_members.ensures
    (and_then c.put_members.new.out.items _ _
    (codes ",\"message\":") _
    c.in_ok-put_bytes-2.ensures
    (and_then c.put_bytes-2.new.out.items _ _
    (string_text c.args.other.words.now) _
    c.in_ok-put_string.ensures
    (c.in_ok-put_bytes-3.ensures))))
