use Rattle.snl_questions.proofs.Lookup.{own_byte}
use Rattle.snl_questions.proofs.tokens.at_offset.token_bytes_find_it.Goals as goal

pub returns : goal.returns
returns c = λ text token offset.
    own_byte text token offset (c.pieces_as_listed.ensures text) (c.text_in_pieces.ensures.inside text)
