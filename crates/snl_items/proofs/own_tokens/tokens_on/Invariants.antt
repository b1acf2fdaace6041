use Rattle.std.proofs.Common.{◌≡◌, ◌+◌, ◌-◌, ◌≤◌, length}
use Rattle.snl_items.specs.OwnTokens.{tokens_before}
use Rattle.snl_items.proofs.own_tokens.tokens_on.Given as goal

abbrev pub invariant-loop-left : goal.invariant-loop-left
invariant-loop-left l = record {
  after : l.from ≤ l.number;
  within : l.number ≤ length l.kinds;
  counted : tokens_before l.kinds l.number + l.left ≡ tokens_before l.kinds l.from + l.count;
}

abbrev pub decreases-loop-left : goal.decreases-loop-left
decreases-loop-left l = length l.kinds - l.number
