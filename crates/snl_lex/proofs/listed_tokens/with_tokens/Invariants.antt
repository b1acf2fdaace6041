use Rattle.std.proofs.Common.{◌≡◌, ◌+◌, ◌≤◌, ◌++◌, filter, take, vec_capacity, vec_len}
use Rattle.snl_lex.specs.Pieces.{is_token}
use Rattle.snl_lex.proofs.listed_tokens.with_tokens.Given as goal

abbrev pub invariant-loop-piece : goal.invariant-loop-piece
invariant-loop-piece l = record {
  added : l.tokens.items ≡ l.fn.tokens.items ++ filter is_token (take l.piece-index l.pieces);
  length : vec_len l.tokens ≤ vec_len l.fn.tokens + l.piece-index;
  capacity : vec_capacity l.tokens ≡ vec_capacity l.fn.tokens;
}
