use Rattle.std.proofs.Common.{take}
use Rattle.snl_tables.specs.WakeSets.{Inserts}
use Rattle.snl_tables.proofs.wake_sets.insert_all.Given as goal

-- the numbers so far were put in
abbrev pub invariant-loop-number : goal.invariant-loop-number
invariant-loop-number l = Inserts l.initial.set l.set (take l.number-index l.numbers)
