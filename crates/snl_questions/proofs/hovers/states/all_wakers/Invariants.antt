use Rattle.std.proofs.Common.{◌≡◌, ◌++◌, map, take}
use Rattle.snl_questions.specs.declared.hovers.states.Waker.TheVariants.{Channel, Flag}
use Rattle.snl_questions.proofs.hovers.states.all_wakers.Given as goal

abbrev pub invariant-loop-flag : goal.invariant-loop-flag
invariant-loop-flag l = l.all.items ≡ map Flag (take l.flag-index l.flags)

abbrev pub invariant-loop-channel : goal.invariant-loop-channel
invariant-loop-channel l =
    l.all.items ≡ map Flag l.flags ++ map Channel (take l.channel-index l.channels)
