use Rattle.snl_lex.specs.Edit.{edit_of}
use Rattle.snl_kept.proofs.ShiftPlans.{cut_fresh}
use Rattle.snl_kept.proofs.kept.Kept.open.Goals as goal

pub planned_whole-requires-clause-lexed : goal.planned_whole-requires-clause-lexed
planned_whole-requires-clause-lexed c =
    cut_fresh (edit_of c.args.edit.now) c.in_ok-changes.changes.pieces _ _ _ c.in_ok-changes.ensures.changes.pieces
    c.ticks-lexed.ensures c.in_ok-changes.ensures.ticks c.new-lexed.ensures c.pieces_are_fresh.ensures
