use Rattle.std.proofs.Common.{refl}
use Rattle.snl_lex.specs.PieceList.{piece_ends, piece_kinds}
use Rattle.snl_lex.proofs.Listed.{listed_are}
use Rattle.snl_lex.proofs.laws.pieces_as_listed.Goals as goal

pub returns : goal.returns
returns c = λ text. listed_are text (piece_ends text) (piece_kinds text) refl refl
