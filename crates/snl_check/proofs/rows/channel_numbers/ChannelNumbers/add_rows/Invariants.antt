use Rattle.std.proofs.Common.{take}
use Rattle.snl_check.specs.Numbered.{AddsAll}
use Rattle.snl_check.proofs.rows.channel_numbers.ChannelNumbers.add_rows.Given as goal

-- the channels so far are added
abbrev pub invariant-loop-number : goal.invariant-loop-number
invariant-loop-number l = AddsAll l.fn.self l.self l.variable l.rows (take l.number-index l.numbers)
