use Rattle.snl_items.specs.Items.{marks_of}
use Rattle.snl_outline_laws.proofs.Meant.{is_first_one, item_means_itself, means_itself}
use Rattle.snl_outline_laws.proofs.Rows.{in_a_row}
use Rattle.snl_outline_laws.proofs.meaning_laws.declared_names_mean_themselves.Goals as goal

pub returns-clause-declaration : goal.returns-clause-declaration
returns-clause-declaration c = λ text offset number d token declared first at.
    means_itself text
    (λ bytes own t read. c.tokens_rise.ensures.rise bytes text own t read)
    (λ bytes own f read. c.functions_are_named_first.ensures bytes text own f read)
    number d
    (is_first_one text
    (λ bytes own t read. c.tokens_rise.ensures.rise bytes text own t read)
    (λ bytes own f read. c.functions_are_named_first.ensures bytes text own f read)
    number d declared first)
    offset token (in_a_row text (c.text_in_pieces.ensures.inside text)
    (c.pieces_as_listed.ensures text) (c.ends_in_order.ensures.rise (marks_of text))
    (c.ends_in_order.ensures.last (marks_of text))) at

pub returns-clause-item : goal.returns-clause-item
returns-clause-item c = λ text offset i token is at.
    item_means_itself text offset i token (in_a_row text (c.text_in_pieces.ensures.inside text)
    (c.pieces_as_listed.ensures text) (c.ends_in_order.ensures.rise (marks_of text))
    (c.ends_in_order.ensures.last (marks_of text))) is at
