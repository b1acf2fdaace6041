use Rattle.std.proofs.Common.{◌∙◌}
use Rattle.snl_tables.proofs.WakeLemmas.{marks_channels, marks_flags}
use Rattle.snl_tables.proofs.wake_sets.WakeMarks.mark.Goals as goal

pub returns-clause-flags : goal.returns-clause-flags
returns-clause-flags c = marks_flags c.args.tables.now c.args.state.now _ _ _ _ c.as_slice-2.ensures c.mark_uses.ensures.covered (c.mark_uses.ensures.flag_limit ∙ c.requires.fit.flags)

pub returns-clause-channels : goal.returns-clause-channels
returns-clause-channels c = marks_channels c.args.tables.now c.args.state.now _ _ _ _ c.as_slice.ensures c.as_slice-2.ensures c.mark_uses.ensures.covered (c.mark_uses.ensures.channel_limit ∙ c.requires.fit.channels)
