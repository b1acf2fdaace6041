use Rattle.std.proofs.Common.{◌≡◌, count_by, filter, map, take, vec_capacity, vec_len}
use Rattle.snl_cut.specs.Cut.{last_end}
use Rattle.snl_lex.specs.PieceList.{is_token_class, listed_pieces}
use Rattle.snl_lex.specs.Pieces.{is_token}
use Rattle.snl_items.specs.Items.{mark_in}
use Rattle.snl_items.proofs.tokens.with_marks.Given as goal

abbrev pub invariant-loop-number : goal.invariant-loop-number
invariant-loop-number l = record {
  marks : l.marks.items ≡ map (mark_in l.text) (filter is_token (take l.number (listed_pieces l.begin l.ends l.kinds)));
  start : l.start ≡ last_end l.begin (take l.number l.ends);
  few : vec_len l.marks ≡ count_by is_token_class (take l.number l.kinds);
  capacity : vec_capacity l.marks ≡ vec_capacity l.fn.marks;
}
