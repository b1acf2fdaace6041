use Rattle.snl_kept.specs.Program.{items_of}
use Rattle.snl_kept.specs.Tables.{tables_in}
use Rattle.snl_kept.proofs.TextSpans.{items_are_read, tokens_lie}
use Rattle.snl_kept.proofs.laws.text_laws.rows_have_bytes.Goals as goal

pub returns-clause-lie : goal.returns-clause-lie
unfolding tables_in
returns-clause-lie c = λ text. c.spans_lie_in_text.ensures.lie text (items_of text) (tokens_lie text (c.text_in_pieces.ensures.inside text))

pub returns-clause-bytes : goal.returns-clause-bytes
unfolding tables_in
returns-clause-bytes c = λ text. c.spans_lie_in_text.ensures.bytes text (items_of text) (items_are_read text (c.text_in_pieces.ensures.inside text))
