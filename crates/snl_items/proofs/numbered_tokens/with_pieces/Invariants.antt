use Rattle.std.proofs.Common.{◌≡◌, take, vec_capacity, vec_len}
use Rattle.snl_items.specs.Places.{pieces_at}
use Rattle.snl_items.proofs.numbered_tokens.with_pieces.Given as goal

abbrev pub invariant-loop-place : goal.invariant-loop-place
invariant-loop-place l = record {
  pieces : l.pieces.items ≡ pieces_at l.begin l.ends l.kinds (take l.place-index l.places);
  few : vec_len l.pieces ≡ l.place-index;
  capacity : vec_capacity l.pieces ≡ vec_capacity l.fn.pieces;
}
