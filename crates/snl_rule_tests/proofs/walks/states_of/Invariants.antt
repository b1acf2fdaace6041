use Rattle.std.proofs.Common.{◌<◌, All}
use Rattle.snl_rule_tests.proofs.walks.states_of.Given as goal

-- the targets so far are states
abbrev pub invariant-loop-target : goal.invariant-loop-target
invariant-loop-target l = All (λ t. t < l.count) l.states.items
