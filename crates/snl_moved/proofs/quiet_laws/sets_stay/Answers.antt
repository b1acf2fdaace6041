use Rattle.snl_moved.proofs.FrontSets.{sets_kept}
use Rattle.snl_moved.proofs.quiet_laws.sets_stay.Goals as goal

pub returns : goal.returns
returns c =
    sets_kept c.same_spelling_same_summary.ensures.summary
    (record { opened = c.sets_open_in_turn.ensures.opened; placed = c.sets_open_in_turn.ensures.placed; within = c.sets_open_in_turn.ensures.within })
