use Rattle.snl_moved.proofs.ShiftedAround.{tables_inside}
use Rattle.snl_moved.proofs.ShiftedTables.{SpellingLaws}
use Rattle.snl_moved.proofs.moved_laws.tables_move_inside_a_state.Goals as goal

pub returns : goal.returns
returns c =
    let laws : SpellingLaws = record { named = c.names_are_tokens.ensures; summaries = c.same_spelling_same_summary.ensures.summary } in
    λ old text s line xs ys j set y before read rep stands named here says. tables_inside laws old text s line xs ys j before read rep set stands named y here says
