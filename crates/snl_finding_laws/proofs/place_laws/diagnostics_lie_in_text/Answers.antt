use Rattle.snl_items.specs.Items.{marks_of}
use Rattle.snl_finding_laws.proofs.Places.{ItemLaws, PlaceLaws, diagnostics_lie}
use Rattle.snl_finding_laws.proofs.place_laws.diagnostics_lie_in_text.Goals as goal

pub returns : goal.returns
returns c = λ text.
    let items : ItemLaws = record { at_tokens = c.faults_stand_at_tokens.ensures; in_tokens = c.faults_stand_in_tokens.ensures } in
    let laws : PlaceLaws text = record {
      inside = c.text_in_pieces.ensures.inside text;
      rise = c.ends_in_order.ensures.rise (marks_of text);
      last = c.ends_in_order.ensures.last (marks_of text);
      items = items;
      tables = c.rows_have_bytes.ensures.lie text;
    } in
    diagnostics_lie text laws
