use Rattle.snl_items.specs.Items.{marks_of}
use Rattle.snl_questions.proofs.FaultPlaces.{noted}
use Rattle.snl_questions.proofs.Named.{in_a_row}
use Rattle.snl_questions.proofs.fault_notes.laws.faults_have_notes.Goals as goal

pub returns : goal.returns
returns c = λ text own at token offset fault from to.
    noted text (in_a_row text (c.text_in_pieces.ensures.inside text)
    (c.pieces_as_listed.ensures text) (c.ends_in_order.ensures.rise (marks_of text))
    (c.ends_in_order.ensures.last (marks_of text))) own at token offset fault from to
