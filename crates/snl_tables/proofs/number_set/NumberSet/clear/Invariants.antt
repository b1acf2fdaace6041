use Rattle.std.proofs.Common.{length, ◌≡◌}
use Rattle.snl_tables.specs.Marks.{marked}
use Rattle.snl_tables.proofs.number_set.NumberSet.clear.Given as goal

abbrev pub invariant-loop : goal.invariant-loop
invariant-loop l = length l.self ≡ length l.initial.self

abbrev pub decreases-loop : goal.decreases-loop
decreases-loop l = length (marked l.self)
