use Rattle.snl_moved.proofs.ShiftedWhole.{tables_kept}
use Rattle.snl_moved.proofs.moved_laws.tables_move.Goals as goal

pub returns : goal.returns
returns c = tables_kept (record { named = c.names_are_tokens.ensures; summaries = c.same_spelling_same_summary.ensures.summary })
