use Rattle.std.proofs.Common.{◌≡◌, ℕ, List, length, map, sym, ap, ap₂, ◌∙◌, arith}
use Rattle.snl_lex.specs.declared.piece.Piece.{Piece}
use Rattle.snl_items.specs.Items.{item_ends}
use Rattle.snl_summary.specs.declared.summary.Outline.{Outline}
use Rattle.snl_scope.specs.LinkedItems.{LinkedItems}
use Rattle.snl_kept.specs.declared.entries.Entry.{Entry}
use Rattle.snl_kept.specs.Checks.{outlines_in}
use Rattle.snl_kept.specs.Program.{item_tokens}
use Rattle.snl_questions.specs.Symbols.{symbols_before, symbols_of}
use Rattle.snl_questions.specs.ItemTokensLaws.{item_count}
use Rattle.snl_questions.proofs.Kept.{linked_count, outline_kept, outlines_kept}
use Rattle.snl_questions.proofs.document_symbols.text_symbols.symbols.Goals as goal

pub add_item-requires-clause-outlines : goal.add_item-requires-clause-outlines
add_item-requires-clause-outlines c =
    let text = c.args.text.now in
    ap (λ (es : List Entry). map outline_kept es) c.requires.entries
    ∙ outlines_kept text (c.same_spelling_same_tree.ensures.by_spelling text)
    (c.outcome_told.ensures.tree text)
    (c.same_spelling_same_summary.ensures.summary_by_spelling text)
    ∙ sym (ap (λ (l : LinkedItems). l.outlines) c.requires.links)

pub add_item-requires-clause-as_many : goal.add_item-requires-clause-as_many
add_item-requires-clause-as_many c =
    ap (λ (es : List ℕ). length es)
    c.of_text-items.ensures.ends
    ∙ sym (linked_count c.args.text.now)
    ∙ sym (ap (λ (l : LinkedItems). length l.outlines) c.requires.links)

pub returns : goal.returns
unfolding symbols_of
returns c =
    let text = c.args.text.now in
    let ss : c.args.lists.now.links.outlines ≡ outlines_in text =
    ap (λ (l : LinkedItems). l.outlines) c.requires.links in
    let count : length c.of_text-items.result.ends.now ≡ length (item_ends text) =
    ap (λ (es : List ℕ). length es)
    c.of_text-items.ensures.ends in
    let all : c.loop-item.item ≡ length (item_tokens text) =
    omega (arith, c.loop-item-test.false, c.loop-item.auto.item-end, item_count text, count) in
    c.loop-item.invariant
    ∙ ap₂ (λ (l : List (List Piece)) (os : List Outline). symbols_before l os c.loop-item.item)
    c.of_text-items.ensures.items ss
    ∙ ap (symbols_before (item_tokens text) (outlines_in text)) all
