use Rattle.std.specs.Prelude.{ℕ, List}
use Rattle.snl_items.specs.Items.{marks_of}
use Rattle.snl_finding_laws.proofs.OneFault.{FindingLaws, bad_token, one_fault, syntax_error}
use Rattle.snl_finding_laws.proofs.OtherCodes.{LinkLaws}
use Rattle.snl_finding_laws.proofs.own_laws.one_fault_an_item.Goals as goal

pub returns : goal.returns
returns c =
    let links : LinkLaws = record { tree = c.outlines_speak_of_tokens.ensures.tree; faulty = c.outlines_speak_of_tokens.ensures.faulty; places = c.faults_have_places.ensures } in
    let laws : (text : List ℕ) → FindingLaws text = λ text. record {
      listed = c.pieces_as_listed.ensures text;
      inside = c.text_in_pieces.ensures.inside text;
      rise = c.ends_in_order.ensures.rise (marks_of text);
      last = c.ends_in_order.ensures.last (marks_of text);
      blamed = c.outcome_told.ensures.within text;
      links = links;
      codes = c.faults_have_item_codes.ensures;
    } in
    record {
      one = λ text. one_fault text (laws text);
      bad_token = λ text. bad_token text (laws text);
      syntax_error = λ text. syntax_error text (laws text);
    }
