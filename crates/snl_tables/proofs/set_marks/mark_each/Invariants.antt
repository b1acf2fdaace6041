use Rattle.std.proofs.Common.{◌≡◌, take}
use Rattle.snl_tables.specs.Shifted.{marked}
use Rattle.snl_tables.proofs.set_marks.mark_each.Given as goal

-- the states so far have their marks
abbrev pub invariant-loop-number : goal.invariant-loop-number
invariant-loop-number l = l.states ≡ marked (take l.number l.marks) l.fn.states
