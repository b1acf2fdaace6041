use Rattle.std.proofs.Common.{◌≡◌, vec_len}
use Rattle.snl_rule_tests.proofs.outlines.kinds_of.Given as goal

-- there are as many kinds as summaries so far
abbrev pub invariant-loop-summary : goal.invariant-loop-summary
invariant-loop-summary l = vec_len l.kinds ≡ l.summary-index
