use Rattle.std.specs.Prelude.{codes}
use Rattle.snl_forms.specs.Forms.{at_of, location_text, notes_of, related_text, result_text, rule_text, said_of}
use Rattle.snl_forms.proofs.Then.{and_then}
use Rattle.snl_forms.proofs.sarif.put_result.Goals as goal

pub returns : goal.returns
unfolding result_text
returns c =
    and_then c.args.out.now.items _ _
    (rule_text (said_of c.args.told)) _
    c.in_ok-put_rule.ensures
    (and_then c.put_rule.new.out.items _ _
    (codes ", \"locations\": [") _
    c.in_ok-put_bytes.ensures
    (and_then c.put_bytes.new.out.items _ _
    (location_text (at_of c.args.told.place)) _
    c.in_ok-put_location.ensures
    (and_then c.put_location.new.out.items _ _
    (codes "}]") _
    c.in_ok-put_bytes-2.ensures
    (and_then c.put_bytes-2.new.out.items _ _
    (related_text (notes_of c.args.told.related)) _
    c.in_ok-put_related.ensures
    (c.in_ok-put_bytes-3.ensures)))))
