use Rattle.std.proofs.Common.{arith, ◌≡◌, ℕ, ◌+◌, ◌-◌, List, length, map, take, IfSome, ap, sym, subst, ◌∙◌}
use Rattle.std.specs.List.{All}
use Rattle.std.proofs.lemmas.List.Elements.{All-filter}
use Rattle.snl_cut.specs.Cut.{ends_below, last_end}
use Rattle.snl_lex.specs.declared.piece.Piece.{Piece}
use Rattle.snl_lex.specs.Pieces.{LiesIn, is_token, pieces_of}
use Rattle.snl_items.specs.Items.{item_ends, marks_of, spelled_items}
use Rattle.snl_scope.specs.LinkedItems.{LinkedItems}
use Rattle.snl_scope.specs.Spoken.{KeepsViews}
use Rattle.snl_summary.specs.declared.summary.Outline.{Outline}
use Rattle.snl_kept.specs.declared.found.program.Part.{Part}
use Rattle.snl_kept.specs.declared.ways.whole.recheck.KeptItems.{KeptItems}
use Rattle.snl_kept.specs.declared.plan.NewCheck.{NewCheck}
use Rattle.snl_kept.specs.Parts.{spelled_part}
use Rattle.snl_kept.specs.Checks.{outlines_in}
use Rattle.snl_kept.specs.Editing.{edit_in}
use Rattle.snl_kept.specs.NewChecks.{AreChecksMade, kept_of, made_checks, nones}
use Rattle.snl_kept.specs.NewLinks.{links_now}
use Rattle.snl_kept.proofs.FreshNumbers.{count}
use Rattle.snl_kept.proofs.KeptChecks.{check_stays}
use Rattle.snl_kept.proofs.MadeChecks.{checks_made, count_of_checks, made_are_stirred, stirred_told}
use Rattle.snl_kept.proofs.SpelledItems.{parts_count, spelled_parts}
use Rattle.snl_kept.proofs.ways.whole.rejudge.checks_after.Goals as goal

pub kept_items-kept-requires-clause-back : goal.kept_items-kept-requires-clause-back
kept_items-kept-requires-clause-back c =
    let old = c.args.editing.now.edit.now.old.now in
    omega (arith, c.len.ensures, ap length c.requires.editing.lists.checks, count_of_checks old, c.requires.editing.changes.items.order)

pub recheck-requires-clause-tokens : goal.recheck-requires-clause-tokens
recheck-requires-clause-tokens c =
    let text = c.args.editing.now.edit.now.text.now in
    subst (All (LiesIn text)) (sym c.requires.tokens) (All-filter is_token (LiesIn text) (pieces_of text) (c.text_in_pieces.ensures.inside text))

pub kept_items-kept-requires-clause-count : goal.kept_items-kept-requires-clause-count
kept_items-kept-requires-clause-count c =
    let old = c.args.editing.now.edit.now.old.now in
    let text = c.args.editing.now.edit.now.text.now in
    let items = c.args.editing.now.changes.now.items in
    let edit = c.args.editing.now.changes.now.tokens.edit in
    let change = c.requires.editing.changes.items in
    let all = count (item_ends old) (item_ends text) items.made.items edit.old_stop edit.new_stop items.kept_front items.kept_back change.order change.ends in
    omega (arith, parts_count text c.args.tokens.now c.args.parts.now c.requires.items, all)

pub recheck-requires-clause-few : goal.recheck-requires-clause-few
recheck-requires-clause-few c =
    let old = c.args.editing.now.edit.now.old.now in
    let text = c.args.editing.now.edit.now.text.now in
    let items = c.args.editing.now.changes.now.items in
    let edit = c.args.editing.now.changes.now.tokens.edit in
    let change = c.requires.editing.changes.items in
    let all = count (item_ends old) (item_ends text) items.made.items edit.old_stop edit.new_stop items.kept_front items.kept_back change.order change.ends in
    let stop : c.kept_items-kept.result.stop ≡ items.kept_front + length items.made.items = ap (λ k. k.stop) c.kept_items-kept.ensures in
    let back : c.kept_items-kept.result.back ≡ c.len.result - items.kept_back = ap (λ k. k.back) c.kept_items-kept.ensures in
    omega (arith, stop, back, c.len.ensures, parts_count text c.args.tokens.now c.args.parts.now c.requires.items, all, ap length c.requires.editing.lists.checks, count_of_checks old, change.order)

pub recheck-requires-clause-edited : goal.recheck-requires-clause-edited
recheck-requires-clause-edited c =
    let old = c.args.editing.now.edit.now.old.now in
    let after : c.after.result.now.outlines ≡ outlines_in c.args.editing.now.edit.now.text.now = c.after.ensures ∙ ap (λ (l : LinkedItems). (links_now l c.args.links.now).outlines) c.requires.editing.lists.links ∙ ap (λ (l : LinkedItems). l.outlines) c.requires.links.are in
    let before : c.args.editing.now.lists.now.links.outlines ≡ outlines_in old = ap (λ (l : LinkedItems). l.outlines) c.requires.editing.lists.links in
    subst (λ (l : List Outline). IfSome c.in_ok-edited.edited (KeepsViews l c.after.result.now.outlines)) (sym before)
    (subst (λ (l : List Outline). IfSome c.in_ok-edited.edited (KeepsViews (outlines_in old) l)) (sym after) c.in_ok-edited.ensures)

-- so much is made for these links, items and tokens
made_for_text : (old text : List ℕ) (tokens : List Piece) (parts : List Part) (ss ts : List Outline) (kept : KeptItems) (many front : ℕ) (made : List ℕ) (back : ℕ) (checks : List NewCheck)
    → checks ≡ made_checks ss ts kept (map (spelled_part text tokens) parts) → ss ≡ outlines_in old → ts ≡ outlines_in text → kept ≡ kept_of many front made back → many ≡ length (item_ends old)
    → map (spelled_part text tokens) parts ≡ spelled_items text
    → checks ≡ made_checks (outlines_in old) (outlines_in text) (kept_of (length (item_ends old)) front made back) (spelled_items text)
made_for_text old text tokens parts ss ts kept many front made back checks is before after kept_is count_is items =
    is
    ∙ ap (λ (l : List Outline). made_checks l ts kept (map (spelled_part text tokens) parts)) before
    ∙ ap (λ (l : List Outline). made_checks (outlines_in old) l kept (map (spelled_part text tokens) parts)) after
    ∙ ap (λ (k : KeptItems). made_checks (outlines_in old) (outlines_in text) k (map (spelled_part text tokens) parts)) (kept_is ∙ ap (λ (n : ℕ). kept_of n front made back) count_is)
    ∙ ap (made_checks (outlines_in old) (outlines_in text) (kept_of (length (item_ends old)) front made back)) items

pub returns : goal.returns
returns c =
    let old = c.args.editing.now.edit.now.old.now in
    let text = c.args.editing.now.edit.now.text.now in
    let items = c.args.editing.now.changes.now.items in
    let made = items.made.items in
    let edit = c.args.editing.now.changes.now.tokens.edit in
    let change = c.requires.editing.changes.items in
    let from = last_end 0 (take items.kept_front (item_ends old)) in
    let before = ends_below edit.start (item_ends old) in
    let rise = c.ends_in_order.ensures.rise (marks_of text) in
    let after : c.after.result.now.outlines ≡ outlines_in text = c.after.ensures ∙ ap (λ (l : LinkedItems). (links_now l c.args.links.now).outlines) c.requires.editing.lists.links ∙ ap (λ (l : LinkedItems). l.outlines) c.requires.links.are in
    let made_is = made_for_text old text c.args.tokens.now c.args.parts.now c.args.editing.now.lists.now.links.outlines c.after.result.now.outlines c.kept_items-kept.result c.len.result items.kept_front made items.kept_back c.in_ok-made.made.items
    c.in_ok-made.ensures.made (ap (λ l. l.outlines) c.requires.editing.lists.links) after c.kept_items-kept.ensures (c.len.ensures ∙ ap length c.requires.editing.lists.checks ∙ count_of_checks old)
    (spelled_parts text c.args.tokens.now c.args.parts.now c.requires.items) in
    let stays = check_stays c.views_told_apart.ensures c.equal_views.ensures.faults c.same_spelling_same_summary.ensures.bytes_by_spelling c.same_spelling_same_summary.ensures.alone (outlines_in old) (outlines_in text) in
    record {
      checks = subst (λ (m : List NewCheck). AreChecksMade old text items.kept_front (nones made) items.kept_back m) (sym made_is)
          (checks_made old text edit.old_stop edit.new_stop items.kept_front from made items.kept_back before change.order change.ends rise change.before change.items stays);
      stirred = ap length made_is
          ∙ made_are_stirred old text edit.old_stop edit.new_stop items.kept_front from made items.kept_back before change.order change.ends rise change.before change.items stays
          ∙ stirred_told (edit_in c.args.editing.now) edit made c.requires.editing.changes.tokens.edit_is change.fresh;
      ticks = c.in_ok-made.ensures.ticks;
    }
