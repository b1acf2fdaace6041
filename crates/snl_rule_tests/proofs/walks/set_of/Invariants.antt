use Rattle.std.proofs.Common.{◌≡◌, ◌<◌, All, length}
use Rattle.snl_rule_tests.proofs.walks.set_of.Given as goal

-- each state so far has its targets, which are states
abbrev pub invariant-loop-row : goal.invariant-loop-row
invariant-loop-row l = record {
  as_long : length l.set.items ≡ l.row-index;
  states : All (λ row. All (λ t. t < length l.rows) row.items) l.set.items;
}
