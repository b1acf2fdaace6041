use Rattle.snl_items.specs.Items.{marks_of}
use Rattle.snl_finding_laws.proofs.OneFault.{FindingLaws}
use Rattle.snl_finding_laws.proofs.OnlyFault.{only_own}
use Rattle.snl_finding_laws.proofs.OtherCodes.{LinkLaws}
use Rattle.snl_finding_laws.proofs.Places.{ItemLaws}
use Rattle.snl_finding_laws.proofs.own_laws.faulty_items_have_no_other.Goals as goal

pub returns : goal.returns
returns c = λ text.
    let links : LinkLaws = record { tree = c.outlines_speak_of_tokens.ensures.tree; faulty = c.outlines_speak_of_tokens.ensures.faulty; places = c.faults_have_places.ensures } in
    let laws : FindingLaws text = record {
      listed = c.pieces_as_listed.ensures text;
      inside = c.text_in_pieces.ensures.inside text;
      rise = c.ends_in_order.ensures.rise (marks_of text);
      last = c.ends_in_order.ensures.last (marks_of text);
      blamed = c.outcome_told.ensures.within text;
      links = links;
      codes = c.faults_have_item_codes.ensures;
    } in
    let items : ItemLaws = record { at_tokens = c.faults_stand_at_tokens.ensures; in_tokens = c.faults_stand_in_tokens.ensures } in
    only_own text laws items (c.rows_have_bytes.ensures.bytes text)
