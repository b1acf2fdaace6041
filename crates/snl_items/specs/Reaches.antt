-- Where tokens are.
use Rattle.snl_lex.specs.declared.piece.Piece.{Piece}
use Rattle.snl_items.specs.declared.token_list.Reach.{Reach}

abbrev pub reach_of : Piece → Reach
reach_of token = record { start = token.start; len = token.len }
