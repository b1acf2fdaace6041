use Rattle.std.proofs.Common.{◌≡◌, map, take}
use Rattle.snl_check.specs.Channels.{variables_before}
use Rattle.snl_check.specs.Collected.{assigned}
use Rattle.snl_check.proofs.rows.channel_rows.variables.Given as goal

-- each declaration has its channels among those so far
abbrev pub invariant-loop-number : goal.invariant-loop-number
invariant-loop-number l = l.lists.items ≡ variables_before (map assigned (take l.number l.channels)) l.count
