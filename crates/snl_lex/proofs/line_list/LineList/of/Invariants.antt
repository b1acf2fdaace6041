use Rattle.std.proofs.Common.{◌≡◌, take}
use Rattle.snl_lex.specs.LineList.{marked, names, numbers}
use Rattle.snl_lex.proofs.line_list.LineList.of.Given as goal

abbrev pub invariant-loop-piece : goal.invariant-loop-piece
invariant-loop-piece l = record {
  markers : l.markers.items ≡ marked (numbers l.text) l.text (take l.piece-index l.pieces);
  naming : l.naming.items ≡ marked (names l.text) l.text (take l.piece-index l.pieces);
}
