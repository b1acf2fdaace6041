use Rattle.snl_alike.proofs.Tokens.{items_move}
use Rattle.snl_alike.proofs.laws.tokens_move.Goals as goal

pub returns : goal.returns
returns c = items_move c.pieces_as_listed.ensures c.text_in_pieces.ensures.inside
