use Rattle.std.proofs.Common.{◌≡◌, map, take}
use Rattle.snl_lex.specs.Pieces.{piece_end}
use Rattle.snl_lex.proofs.piece_list.PieceList.of.Given as goal

abbrev pub invariant-loop-piece : goal.invariant-loop-piece
invariant-loop-piece l = record {
  ends : l.ends.items ≡ map piece_end (take l.piece-index l.pieces);
  kinds : l.kinds.items ≡ map (λ p. p.kind) (take l.piece-index l.pieces);
}
