use Rattle.std.proofs.Common.{List, ap, sym, ◌∙◌}
use Rattle.snl_lex.specs.LineShift.{moved_line}
use Rattle.snl_summary.specs.declared.summary.Outline.{Outline}
use Rattle.snl_check.specs.States.{wake_of}
use Rattle.snl_kept.specs.Program.{items_of}
use Rattle.snl_kept.specs.Tables.{tables_in}
use Rattle.snl_kept.proofs.MadeRows.{tokens_got, uses_got}
use Rattle.snl_kept.proofs.ways.one_item.own_rows.own_wake.Goals as goal

pub returns : goal.returns
unfolding tables_in
returns c =
    let old = c.args.edit.now.old.now in
    let text = c.args.edit.now.text.now in
    let ss : List Outline = c.args.links.now.outlines in
    let i = c.args.item in
    let own = c.args.own.now in
    let place = c.requires.place in
    let uses = uses_got c.outcome_told.ensures.tree c.same_spelling_same_tree.ensures.by_spelling c.same_spelling_same_summary.ensures.summary_by_spelling c.same_spelling_same_summary.ensures.bytes_by_spelling
    text (items_of text) ss i own c.args.check.now c.wake_uses-uses.result.now place.got c.requires.check c.wake_uses-uses.ensures in
    c.from_vec.ensures
    ∙ c.in_ok-wake.ensures old place.shift.by (moved_line place.shift) (items_of old) (items_of text) place.some_before place.read place.one c.requires.tables c.requires.outlines (tokens_got text (items_of text) i own place.got) uses
    ∙ ap (λ (os : List Outline). wake_of text (items_of text) os i) (sym c.requires.outlines)
