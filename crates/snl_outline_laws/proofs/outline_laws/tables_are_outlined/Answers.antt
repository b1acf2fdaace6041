use Rattle.snl_items.specs.Items.{marks_of}
use Rattle.snl_outline_laws.proofs.Outlined.{flags_outlined, sets_outlined, states_outlined}
use Rattle.snl_outline_laws.proofs.Rows.{in_a_row}
use Rattle.snl_outline_laws.proofs.outline_laws.tables_are_outlined.Goals as goal

pub returns-clause-sets : goal.returns-clause-sets
returns-clause-sets c = λ text.
    sets_outlined text (in_a_row text (c.text_in_pieces.ensures.inside text)
    (c.pieces_as_listed.ensures text) (c.ends_in_order.ensures.rise (marks_of text))
    (c.ends_in_order.ensures.last (marks_of text))) (c.names_are_tokens.ensures text)

pub returns-clause-states : goal.returns-clause-states
returns-clause-states c = λ text.
    states_outlined text (in_a_row text (c.text_in_pieces.ensures.inside text)
    (c.pieces_as_listed.ensures text) (c.ends_in_order.ensures.rise (marks_of text))
    (c.ends_in_order.ensures.last (marks_of text))) (c.names_are_tokens.ensures text)

pub returns-clause-flags : goal.returns-clause-flags
returns-clause-flags c = λ text.
    flags_outlined text (in_a_row text (c.text_in_pieces.ensures.inside text)
    (c.pieces_as_listed.ensures text) (c.ends_in_order.ensures.rise (marks_of text))
    (c.ends_in_order.ensures.last (marks_of text))) (c.names_are_tokens.ensures text)
