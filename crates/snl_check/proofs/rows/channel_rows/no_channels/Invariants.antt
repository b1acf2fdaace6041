use Rattle.std.proofs.Common.{◌≡◌, []}
use Rattle.snl_check.specs.Channels.{variables_before}
use Rattle.snl_check.proofs.rows.channel_rows.no_channels.Given as goal

-- as many lists as were wanted so far
abbrev pub invariant-loop : goal.invariant-loop
invariant-loop l = l.lists.items ≡ variables_before [] l.counter
