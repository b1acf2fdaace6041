use Rattle.std.proofs.Common.{◌≡◌, ◌≤◌, take, vec_capacity, vec_len}
use Rattle.snl_items.specs.Places.{token_places}
use Rattle.snl_items.proofs.numbered_tokens.with_places.Given as goal

abbrev pub invariant-loop-number : goal.invariant-loop-number
invariant-loop-number l = record {
  places : l.places.items ≡ token_places 0 (take l.number l.kinds);
  few : vec_len l.places ≤ l.number;
  capacity : vec_capacity l.places ≡ vec_capacity l.fn.places;
}
