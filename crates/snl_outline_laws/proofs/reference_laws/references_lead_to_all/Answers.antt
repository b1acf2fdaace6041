use Rattle.std.proofs.Common.{Some, ◌≡◌}
use Rattle.std.proofs.lemmas.List.Elements.{recursion_from_All}
use Rattle.snl_items.specs.Items.{marks_of}
use Rattle.snl_questions.specs.declared.mentions.mention.Mention.{Mention}
use Rattle.snl_questions.specs.Mentions.{mentioned_at, mentions_in}
use Rattle.snl_outline_laws.proofs.References.{lead_to_all}
use Rattle.snl_outline_laws.proofs.Rows.{in_a_row}
use Rattle.snl_outline_laws.proofs.reference_laws.references_lead_to_all.Goals as goal

pub returns : goal.returns
returns c = λ text.
    lead_to_all text
    (in_a_row text (c.text_in_pieces.ensures.inside text)
    (c.pieces_as_listed.ensures text) (c.ends_in_order.ensures.rise (marks_of text))
    (c.ends_in_order.ensures.last (marks_of text)))
    (recursion_from_All (λ (m : Mention). mentioned_at text m.at ≡ Some m.means)
    (mentions_in text) (c.mentions_are_exact.ensures.sound text))
