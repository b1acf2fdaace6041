use Rattle.snl_check.specs.Numbered.{HoldsBelow}
use Rattle.snl_check.proofs.rows.channel_numbers.numbers_by_rows.Given as goal

-- the table has the channels of the variables so far
abbrev pub invariant-loop-variable : goal.invariant-loop-variable
invariant-loop-variable l = HoldsBelow l.numbers l.rows l.lists l.variable
