use Rattle.std.proofs.Common.{◌≡◌, ℕ, suc, ◌-◌, vec_len}
use Rattle.snl_scope.specs.ByNumber.{at_number}
use Rattle.snl_scope.proofs.by_number.put_at.Given as goal

-- what is added is nothing for any number
abbrev pub invariant-loop-list : goal.invariant-loop-list
invariant-loop-list g l = (n : ℕ) → at_number l.list.items n ≡ at_number l.fn.list.items n

abbrev pub decreases-loop-list : goal.decreases-loop-list
decreases-loop-list g l = suc l.number - vec_len l.list
