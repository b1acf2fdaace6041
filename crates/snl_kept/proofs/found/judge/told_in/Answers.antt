use Rattle.std.proofs.Common.{◌≡◌, ℕ, IfSome, List, map, ap, subst, sym, ◌∙◌}
use Rattle.std.proofs.lemmas.Simd.{map-map}
use Rattle.snl_scope.specs.Linked.{faults_of}
use Rattle.snl_summary.specs.Summaries.{kind_of}
use Rattle.snl_tables.specs.declared.rows.Tables.{Tables}
use Rattle.snl_check.specs.KnownRows.{AreKnown}
use Rattle.snl_check.specs.Tables.{tables_of}
use Rattle.snl_kept.specs.Checks.{checks_over}
use Rattle.snl_kept.specs.Linked.{linked_of, outlines_of}
use Rattle.snl_kept.specs.Parts.{item_of_part}
use Rattle.snl_kept.specs.Program.{ProgramItem, items_of}
use Rattle.snl_kept.specs.Tables.{tables_in}
use Rattle.snl_kept.proofs.SpelledItems.{checks_told}
use Rattle.snl_kept.proofs.Trees.{same_items}
use Rattle.snl_kept.proofs.found.judge.told_in.Goals as goal

pub told_by-requires-clause-links : goal.told_by-requires-clause-links
told_by-requires-clause-links c =
    let cut = c.args.cut.now in
    let text = cut.text.now in
    let xs = map (item_of_part cut.tokens.now) c.args.parts.now in
    let items : xs ≡ items_of text = same_items text cut.tokens.now cut.ends.now xs cut.tokens_are cut.ends_are c.requires.items in
    c.requires.links ∙ ap (outlines_of text) (sym items)

pub told_by-requires-clause-kinds : goal.told_by-requires-clause-kinds
told_by-requires-clause-kinds c =
    let cut = c.args.cut.now in
    let text = cut.text.now in
    let xs = map (item_of_part cut.tokens.now) c.args.parts.now in
    let items : xs ≡ items_of text = same_items text cut.tokens.now cut.ends.now xs cut.tokens_are cut.ends_are c.requires.items in
    c.requires.kinds
    ∙ ap (map (λ (x : ProgramItem). kind_of x.tree)) (sym items)
    ∙ map-map (λ (x : ProgramItem). kind_of x.tree) (item_of_part cut.tokens.now) c.args.parts.now

pub told_by-requires-clause-faults : goal.told_by-requires-clause-faults
told_by-requires-clause-faults c =
    let cut = c.args.cut.now in
    let text = cut.text.now in
    let xs = map (item_of_part cut.tokens.now) c.args.parts.now in
    let items : xs ≡ items_of text = same_items text cut.tokens.now cut.ends.now xs cut.tokens_are cut.ends_are c.requires.items in
    c.requires.faults ∙ ap (λ (l : List ProgramItem). faults_of (linked_of text l)) (sym items)

pub told_by-requires-clause-checks : goal.told_by-requires-clause-checks
told_by-requires-clause-checks c =
    let cut = c.args.cut.now in
    let text = cut.text.now in
    let xs = map (item_of_part cut.tokens.now) c.args.parts.now in
    let items : xs ≡ items_of text = same_items text cut.tokens.now cut.ends.now xs cut.tokens_are cut.ends_are c.requires.items in
    c.requires.checks
    ∙ sym (checks_told text (c.outcome_told.ensures.tree text) (c.same_spelling_same_tree.ensures.by_spelling text) (c.same_spelling_same_summary.ensures.bytes_by_spelling text))
    ∙ ap (checks_over text) (sym items)

-- the tables of a text, by its items
same_tables : (text : List ℕ) (xs : List ProgramItem) → xs ≡ items_of text → tables_in text ≡ tables_of text xs
unfolding tables_in
same_tables text xs items = ap (tables_of text) (sym items)

pub told_by-requires-clause-known : goal.told_by-requires-clause-known
told_by-requires-clause-known c =
    let cut = c.args.cut.now in
    let text = cut.text.now in
    let xs = map (item_of_part cut.tokens.now) c.args.parts.now in
    let items : xs ≡ items_of text = same_items text cut.tokens.now cut.ends.now xs cut.tokens_are cut.ends_are c.requires.items in
    subst (λ (t : Tables). IfSome c.args.known (λ k. AreKnown k t)) (same_tables text xs items) c.requires.known
