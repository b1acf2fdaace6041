use Rattle.std.proofs.Common.{◌≡◌, ◌++◌, length}
use Rattle.snl_tables.specs.Marks.{marked}
use Rattle.snl_tables.proofs.wake_sets.listed.Given as goal

-- the numbers so far were taken out
abbrev pub invariant-loop-number : goal.invariant-loop-number
invariant-loop-number l = marked l.initial.set ≡ l.numbers.items ++ marked l.set

abbrev pub decreases-loop-number : goal.decreases-loop-number
decreases-loop-number l = length (marked l.set)
