use Rattle.std.proofs.Common.{◌∙◌}
use Rattle.std.proofs.lemmas.List.{length-map}
use Rattle.snl_lex.specs.Pieces.{tokens_of}
use Rattle.snl_items.specs.Items.{mark_in, marks_of}
use Rattle.snl_kept.proofs.KeptChecks.{check_stays}
use Rattle.snl_kept.proofs.InsideItems.{one_replaced}
use Rattle.snl_kept.proofs.laws.item_laws.one_item_replaced.Goals as goal

pub returns : goal.returns
returns c = λ edit ch t x e is.
    one_replaced edit ch t x e is
    c.text_in_pieces.ensures.inside
    c.outcome_told.ensures.tree
    c.same_spelling_same_tree.ensures.by_spelling
    c.same_spelling_same_summary.ensures.summary_by_spelling
    c.same_spelling_same_summary.ensures.bytes
    c.views_told_apart.ensures
    c.lines_move.ensures
    (check_stays c.views_told_apart.ensures c.equal_views.ensures.faults c.same_spelling_same_summary.ensures.bytes_by_spelling c.same_spelling_same_summary.ensures.alone)
    c.same_spelling_same_summary.ensures.bytes_by_spelling
    (λ l. c.ends_in_order.ensures.rise (marks_of l))
    (λ l. c.ends_in_order.ensures.last (marks_of l) ∙ length-map (tokens_of l) (mark_in l))
    (c.tokens_around_stay.ensures edit ch.pieces is.edit_is is.lines.lines.old_short is.lines.lines.short is.changed.pieces ch.tokens is.changed.tokens t.by is.by)
