use Rattle.std.proofs.Common.{◌≡◌, ◌+◌, ◌-◌, ◌≤◌, ◌++◌, filter, take, vec_capacity, vec_len}
use Rattle.snl_cut.specs.Cut.{last_end}
use Rattle.snl_lex.specs.PieceList.{listed_pieces, pieces_between}
use Rattle.snl_lex.specs.Pieces.{is_token}
use Rattle.snl_lex.proofs.listed_tokens.with_listed_tokens.Given as goal

abbrev pub invariant-loop-number : goal.invariant-loop-number
invariant-loop-number l = record {
  begun : l.start ≡ last_end l.begin (take l.number l.list.ends.items);
  added : l.tokens.items ≡ l.fn.tokens.items ++ filter is_token (pieces_between (listed_pieces l.begin l.list.ends.items l.list.kinds.items) l.from l.number);
  length : vec_len l.tokens ≤ vec_len l.fn.tokens + (l.number - l.from);
  capacity : vec_capacity l.tokens ≡ vec_capacity l.fn.tokens;
}
