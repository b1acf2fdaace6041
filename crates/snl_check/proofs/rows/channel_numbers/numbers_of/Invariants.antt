use Rattle.std.proofs.Common.{map, take}
use Rattle.snl_check.specs.Collected.{assigned}
use Rattle.snl_check.specs.Numbered.{Numbered}
use Rattle.snl_check.proofs.rows.channel_numbers.numbers_of.Given as goal

-- the table has the channels so far
abbrev pub invariant-loop-number : goal.invariant-loop-number
invariant-loop-number l = Numbered l.numbers (map assigned (take l.number l.channels))
