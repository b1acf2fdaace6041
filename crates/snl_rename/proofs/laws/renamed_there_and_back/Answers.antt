use Rattle.snl_rename.proofs.Back.{text_back}
use Rattle.snl_rename.proofs.laws.renamed_there_and_back.Goals as goal

pub returns : goal.returns
returns c = text_back c.edits_are_undone.ensures c.undone_edits_move.ensures
    c.places_keep_their_order.ensures c.tokens_move.ensures
