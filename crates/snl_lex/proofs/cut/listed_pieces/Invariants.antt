use Rattle.std.proofs.Common.{◌≡◌, take}
use Rattle.snl_cut.specs.Cut.{last_end}
use Rattle.snl_lex.specs.PieceList.{listed_pieces, pieces_between}
use Rattle.snl_lex.proofs.cut.listed_pieces.Given as goal

abbrev pub invariant-loop-number : goal.invariant-loop-number
invariant-loop-number l = record {
  made : l.pieces.items ≡ pieces_between (listed_pieces l.from l.ends l.kinds) 0 l.number;
  begun : l.start ≡ last_end l.from (take l.number l.ends);
}
