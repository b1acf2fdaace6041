use Rattle.std.proofs.Common.{◌≡◌, ℕ, List, ap, map, ◌∙◌, Bor}
use Rattle.std.proofs.lemmas.Simd.{map-map}
use Rattle.snl_summary.specs.declared.summary.Summary.{Summary}
use Rattle.snl_scope.specs.LinkedItems.{linked_items}
use Rattle.snl_item_check.specs.Items.{ProgramItem, linked_of, summaries_of, summary_of_item}
use Rattle.snl_kept.specs.Parts.{item_of_part}
use Rattle.snl_kept.proofs.found.summaries.links_of.Goals as goal

-- the outlines and the kinds of the summaries are those of the items
linked-summaries : (text : List ℕ) (xs : List ProgramItem) → linked_items (summaries_of text xs) ≡ linked_of text xs
linked-summaries text xs = λ j. record { outlines = map-map (λ s. s.outline) (summary_of_item text) xs j; kinds = map-map (λ s. s.kind) (summary_of_item text) xs j }

pub returns-clause-links : goal.returns-clause-links
returns-clause-links c =
    let xs = map (item_of_part c.args.tokens.now) c.args.parts.now in
    c.in_ok-links.ensures ∙ ap (λ (l : List (Bor Summary)). linked_items (map (λ (s : Bor Summary). s.now) l)) c.deref.ensures.value ∙ ap linked_items c.in_ok-summaries.ensures ∙ linked-summaries c.args.text.now xs

pub returns-clause-outlines : goal.returns-clause-outlines
returns-clause-outlines c =
    let xs = map (item_of_part c.args.tokens.now) c.args.parts.now in
    ap (λ l. l.outlines) (c.in_ok-links.ensures ∙ ap (λ (l : List (Bor Summary)). linked_items (map (λ (s : Bor Summary). s.now) l)) c.deref.ensures.value ∙ ap linked_items c.in_ok-summaries.ensures ∙ linked-summaries c.args.text.now xs)
