use Rattle.std.specs.Prelude.{codes}
use Rattle.snl_forms.specs.Forms.{at_of, location_text, message_text, other_text}
use Rattle.snl_forms.proofs.Then.{and_then}
use Rattle.snl_forms.proofs.sarif.put_other.Goals as goal

pub returns : goal.returns
unfolding other_text
returns c =
    and_then c.args.out.now.items _ _
    (codes ", \"relatedLocations\": [") _
    c.in_ok-put_bytes.ensures
    (and_then c.put_bytes.new.out.items _ _
    (location_text (at_of c.args.other.place)) _
    c.in_ok-put_location.ensures
    (and_then c.put_location.new.out.items _ _
    (codes ", ") _
    c.in_ok-put_bytes-2.ensures
    (and_then c.put_bytes-2.new.out.items _ _
    (message_text c.args.other.words.now) _
    c.in_ok-put_message.ensures
    (c.in_ok-put_bytes-3.ensures))))
