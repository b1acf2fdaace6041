use Rattle.snl_item_check.specs.View.{is_in_set, known_of, leads_to}
use Rattle.snl_kept.proofs.ShiftedText.{all_shifts}
use Rattle.snl_kept.proofs.laws.shift_laws.edit_shifts_all.Goals as goal

pub returns : goal.returns
returns c = λ edit t is.
    all_shifts edit t is
    c.text_in_pieces.ensures.inside
    c.outcome_told.ensures.tree
    c.same_spelling_same_tree.ensures.by_spelling
    c.same_spelling_same_summary.ensures.summary_by_spelling
    c.same_spelling_same_summary.ensures.bytes
    (λ ss i bytes tree. c.faults_stand_in_tokens.ensures bytes tree (is_in_set ss i) (known_of ss i) (leads_to ss i))
    c.views_told_apart.ensures
    c.lines_move.ensures
    c.tables_move.ensures
