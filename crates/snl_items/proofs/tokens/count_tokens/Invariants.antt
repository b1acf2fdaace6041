use Rattle.std.proofs.Common.{◌≡◌, ◌-◌, ◌≤◌, count_by, length, take}
use Rattle.snl_lex.specs.PieceList.{is_token_class}
use Rattle.snl_items.proofs.tokens.count_tokens.Given as goal

abbrev pub invariant-loop-start : goal.invariant-loop-start
invariant-loop-start l = record {
  counted : l.count ≡ count_by is_token_class (take l.start l.kinds);
  few : l.count ≤ l.start;
  inside : l.start ≤ length l.kinds;
}

abbrev pub decreases-loop-start : goal.decreases-loop-start
decreases-loop-start l = length l.kinds - l.start
