use Rattle.snl_items.specs.Items.{marks_of}
use Rattle.snl_questions.proofs.Children.{ItemLaws, SetsOpenInTurn, children_within}
use Rattle.snl_questions.proofs.Named.{in_a_row}
use Rattle.snl_questions.proofs.document_symbols.laws.children_lie_in_parents.Goals as goal

pub returns : goal.returns
returns c = λ text.
    let sets : SetsOpenInTurn = record {
      opened = c.sets_open_in_turn.ensures.opened;
      placed = c.sets_open_in_turn.ensures.placed;
    } in
    let laws : ItemLaws text = record {
      row = in_a_row text (c.text_in_pieces.ensures.inside text) (c.pieces_as_listed.ensures text)
          (c.ends_in_order.ensures.rise (marks_of text))
          (c.ends_in_order.ensures.last (marks_of text));
      sets = sets;
      names = c.names_are_tokens.ensures text;
    } in
    children_within text laws
