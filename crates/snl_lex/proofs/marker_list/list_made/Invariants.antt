use Rattle.std.proofs.Common.{◌≡◌, ◌++◌, take}
use Rattle.snl_cut.specs.Cut.{last_end}
use Rattle.snl_lex.specs.LineList.{marked, names, numbers}
use Rattle.snl_lex.specs.Edit.{made_pieces}
use Rattle.snl_lex.specs.PieceList.{pieces_between}
use Rattle.snl_lex.proofs.marker_list.list_made.Given as goal

abbrev pub invariant-loop-number : goal.invariant-loop-number
invariant-loop-number l = record {
  begun : l.start ≡ last_end l.change.made_from (take l.number l.change.list.ends.items);
  markers : l.markers.items ≡ l.fn.markers.items ++ marked (numbers l.text) l.text (pieces_between (made_pieces l.change) 0 l.number);
  naming : l.naming.items ≡ l.fn.naming.items ++ marked (names l.text) l.text (pieces_between (made_pieces l.change) 0 l.number);
}
