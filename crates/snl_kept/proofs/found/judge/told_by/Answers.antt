use Rattle.std.proofs.Common.{◌≡◌, ℕ, List, length, map, ap, sym, subst, ◌∙◌}
use Rattle.snl_lex.specs.Pieces.{tokens_of}
use Rattle.snl_tables.specs.declared.rows.Tables.{Tables}
use Rattle.snl_check.specs.Tables.{tables_of}
use Rattle.snl_kept.specs.Parts.{EndsWithin, item_of_part}
use Rattle.snl_kept.specs.Program.{ProgramItem, items_of}
use Rattle.snl_kept.specs.Tables.{tables_in}
use Rattle.snl_kept.specs.Warnings.{shows_warnings}
use Rattle.snl_kept.proofs.Trees.{parts_count, same_items, tokens_lie, trees_give}
use Rattle.snl_kept.proofs.found.judge.told_by.Goals as goal

pub shows_warnings-requires-clause-tokens : goal.shows_warnings-requires-clause-tokens
shows_warnings-requires-clause-tokens c =
    let cut = c.args.cut.now in
    tokens_lie cut.text.now cut.tokens.now cut.tokens_are (c.text_in_pieces.ensures.inside cut.text.now)

pub tables_of-requires-clause-cut : goal.tables_of-requires-clause-cut
tables_of-requires-clause-cut c =
    let cut = c.args.cut.now in
    let text = cut.text.now in
    let lie = tokens_lie text cut.tokens.now cut.tokens_are (c.text_in_pieces.ensures.inside text) in
    record {
      source = λ k d below. (lie k d below).1;
      within = subst (λ ts. EndsWithin 0 cut.ends.now (length ts)) (sym cut.tokens_are) (subst (λ es. EndsWithin 0 es (length (tokens_of text))) (sym cut.ends_are) (c.items_end_in_order.ensures text));
      each = parts_count text cut.tokens.now cut.ends.now c.args.parts.now c.requires.items;
    }

pub tables_of-requires-clause-items : goal.tables_of-requires-clause-items
tables_of-requires-clause-items c =
    let cut = c.args.cut.now in
    trees_give cut.text.now cut.tokens.now cut.ends.now c.args.parts.now c.requires.items ∙ sym c.requires.items

same_tables : (text : List ℕ) (xs : List ProgramItem) (all : Tables) → xs ≡ items_of text → all ≡ tables_of text xs → all ≡ tables_in text
unfolding tables_in
same_tables text xs all items is = is ∙ ap (tables_of text) items

pub returns-clause-tables : goal.returns-clause-tables
returns-clause-tables c =
    let cut = c.args.cut.now in
    let xs = map (item_of_part cut.tokens.now) c.args.parts.now in
    same_tables cut.text.now xs c.in_ok-tables.tables (same_items cut.text.now cut.tokens.now cut.ends.now xs cut.tokens_are cut.ends_are c.requires.items) c.in_ok-tables.ensures

pub returns-clause-warns : goal.returns-clause-warns
returns-clause-warns c =
    let cut = c.args.cut.now in
    let xs = map (item_of_part cut.tokens.now) c.args.parts.now in
    c.in_ok-warns.ensures ∙ ap (shows_warnings cut.text.now) (same_items cut.text.now cut.tokens.now cut.ends.now xs cut.tokens_are cut.ends_are c.requires.items)
