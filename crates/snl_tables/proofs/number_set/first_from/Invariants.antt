use Rattle.std.proofs.Common.{length, ◌-◌, ◌≤◌}
use Rattle.snl_tables.specs.Marks.{AreKept}
use Rattle.snl_tables.proofs.number_set.first_from.Given as goal

abbrev pub invariant-loop-at : goal.invariant-loop-at
invariant-loop-at l = record { kept : AreKept l.marks l.blocks l.at; on : l.fn.from ≤ l.at }

abbrev pub decreases-loop-at : goal.decreases-loop-at
decreases-loop-at l = length l.marks - l.at
