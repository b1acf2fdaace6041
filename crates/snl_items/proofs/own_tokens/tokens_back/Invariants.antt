use Rattle.std.proofs.Common.{◌≡◌, ◌+◌, ◌≤◌}
use Rattle.snl_items.specs.OwnTokens.{tokens_before}
use Rattle.snl_items.proofs.own_tokens.tokens_back.Given as goal

abbrev pub invariant-loop-left : goal.invariant-loop-left
invariant-loop-left l = record {
  before : l.number ≤ l.from;
  few : l.left ≤ l.count;
  counted : tokens_before l.kinds l.number + l.count ≡ tokens_before l.kinds l.from + l.left;
}

abbrev pub decreases-loop-left : goal.decreases-loop-left
decreases-loop-left l = l.number
