use Rattle.std.proofs.Common.{ap, ◌∙◌}
use Rattle.snl_items.specs.Items.{marks_of}
use Rattle.snl_questions.specs.Mentions.{references_near}
use Rattle.snl_shown.specs.Spans.{offset_at}
use Rattle.snl_published_laws.proofs.Ranges.{TokenLaws}
use Rattle.snl_published_laws.proofs.References.{items_within, reference_leads_back}
use Rattle.snl_published_laws.proofs.reference_laws.reference_ranges_lead_back.Goals as goal

pub returns : goal.returns
returns c = λ encoding text place r utf8 there.
    let laws : TokenLaws text = record {
      characters = c.pieces_hold_characters.ensures text utf8;
      class = c.text_in_pieces.ensures.class text;
      white = λ u some white. (c.first_piece_reaches.ensures.white u some white).0;
    } in
    let within = items_within text (c.ends_in_order.ensures.rise (marks_of text))
    (c.ends_in_order.ensures.last (marks_of text)) in
    let back = reference_leads_back text laws within (offset_at encoding text place) r there in
    ap (references_near text) (c.places_return.ensures encoding text r.span.start back.0 back.1)
    ∙ c.references_lead_to_all.ensures text (offset_at encoding text place) r there
