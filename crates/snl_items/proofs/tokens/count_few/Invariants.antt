use Rattle.std.proofs.Common.{◌≡◌, ◌≤◌, count_by, take}
use Rattle.snl_lex.specs.PieceList.{is_token_class}
use Rattle.snl_items.proofs.tokens.count_few.Given as goal

abbrev pub invariant-loop-kind : goal.invariant-loop-kind
invariant-loop-kind l = record {
  counted : l.count ≡ count_by is_token_class (take l.kind-index l.kinds);
  few : l.count ≤ l.kind-index;
}
