use Rattle.snl_moved.proofs.WakeLaws.{has_channels, has_flags}
use Rattle.snl_moved.proofs.laws.wake_up_sets.Goals as goal

pub returns-clause-flags : goal.returns-clause-flags
returns-clause-flags c = has_flags

pub returns-clause-channels : goal.returns-clause-channels
returns-clause-channels c = has_channels
