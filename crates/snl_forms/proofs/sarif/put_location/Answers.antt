use Rattle.std.specs.Prelude.{codes}
use Rattle.snl_forms.specs.Forms.{at_of, location_text, reference_text, region_text}
use Rattle.snl_forms.proofs.Then.{and_then}
use Rattle.snl_forms.proofs.sarif.put_location.Goals as goal

pub returns : goal.returns
unfolding location_text
returns c =
    and_then c.args.out.now.items _ _
    (codes "{\"physicalLocation\": {\"artifactLocation\": {\"uri\": \"") _
    c.in_ok-put_bytes.ensures
    (and_then c.put_bytes.new.out.items _ _
    (reference_text c.args.place.file.now) _
    c.in_ok-put_reference.ensures
    (and_then c.put_reference.new.out.items _ _
    (codes "\"}") _
    c.in_ok-put_bytes-2.ensures
    (and_then c.put_bytes-2.new.out.items _ _
    (region_text (at_of c.args.place)) _
    c.in_ok-put_region.ensures
    (c.in_ok-put_bytes-3.ensures))))
