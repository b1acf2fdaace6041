use Rattle.std.proofs.Common.{◌≡◌, ℕ, suc, ◌-◌, vec_len}
use Rattle.snl_scope.specs.NameTables.{name_head}
use Rattle.snl_scope.proofs.names.first_numbers.make_head.Given as goal

-- what is added says what no head says
abbrev pub invariant-loop-heads : goal.invariant-loop-heads
invariant-loop-heads l = (n : ℕ) → name_head l.heads.items n ≡ name_head l.fn.heads.items n

abbrev pub decreases-loop-heads : goal.decreases-loop-heads
decreases-loop-heads l = suc l.name - vec_len l.heads
