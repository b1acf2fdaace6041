use Rattle.std.proofs.Common.{◌≡◌, length, take}
use Rattle.snl_tables.specs.WakeSets.{AreCovered, AreSeen}
use Rattle.snl_tables.proofs.wake_sets.mark_uses.Given as goal

-- what the uses so far cover is marked
abbrev pub invariant-loop-wake_up : goal.invariant-loop-wake_up
invariant-loop-wake_up l = record {
  covered : AreCovered l.variables (take l.wake_up-index l.uses) l.flags l.channels;
  seen : AreSeen l.variables l.seen l.channels;
  flag_limit : length l.flags ≡ length l.initial.flags;
  channel_limit : length l.channels ≡ length l.initial.channels;
}
