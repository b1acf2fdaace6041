use Rattle.snl_items.specs.Items.{marks_of}
use Rattle.snl_questions.proofs.Named.{in_a_row, names_within}
use Rattle.snl_questions.proofs.document_symbols.laws.names_lie_in_extents.Goals as goal

pub returns : goal.returns
returns c = λ text.
    names_within text (in_a_row text (c.text_in_pieces.ensures.inside text)
    (c.pieces_as_listed.ensures text) (c.ends_in_order.ensures.rise (marks_of text))
    (c.ends_in_order.ensures.last (marks_of text)))
