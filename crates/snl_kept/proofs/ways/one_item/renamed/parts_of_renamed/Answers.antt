use Rattle.std.proofs.Common.{◌≡◌, ℕ, All, List, length, Option, sym, ap, ap₂, subst, ◌∙◌}
use Rattle.snl_cut.specs.Cut.{after_ticks}
use Rattle.snl_lex.specs.Edit.{edit_of}
use Rattle.snl_lex.specs.Pieces.{LiesIn}
use Rattle.snl_lex.specs.declared.piece.Piece.{Piece}
use Rattle.snl_lex.specs.PieceList.{spelled}
use Rattle.snl_summary.specs.declared.summary.Outline.{Outline}
use Rattle.snl_item_check.specs.declared.findings.Checked.{Checked}
use Rattle.snl_kept.specs.declared.plan.RowChange.{RowChange}
use Rattle.snl_kept.specs.declared.ways.one_item.touched_rows.TouchedRows.{TouchedRows}
use Rattle.snl_kept.specs.Checks.{check_by, outlines_in}
use Rattle.snl_kept.specs.ItemPlan.{IsAfterInside, own_item}
use Rattle.snl_kept.specs.NewChecks.{made_at}
use Rattle.snl_kept.specs.OwnRows.{change_told}
use Rattle.snl_kept.specs.Program.{items_of, program_item}
use Rattle.snl_kept.specs.RenamedItem.{as_touched}
use Rattle.snl_kept.specs.ReplacedItem.{own_check, own_tokens}
use Rattle.snl_kept.proofs.InsideMade.{is_there, says_alike, sound_alike}
use Rattle.snl_kept.proofs.MadeRows.{after_any}
use Rattle.snl_kept.proofs.OneItem.{own_lie}
use Rattle.snl_kept.proofs.ways.one_item.renamed.parts_of_renamed.Goals as goal

pub own_check-requires-clause-within : goal.own_check-requires-clause-within
own_check-requires-clause-within c =
    let text = c.args.one.now.editing.edit.now.text.now in
    subst (All (LiesIn text)) (sym (c.deref.ensures.value ∙ c.requires.one.own.is)) (own_lie text c.args.one.now.editing.changes.now.items.kept_front (c.text_in_pieces.ensures.inside text))

pub renamed_change-requires-clause-made : goal.renamed_change-requires-clause-made
renamed_change-requires-clause-made c =
    let text : List ℕ = c.args.one.now.editing.edit.now.text.now in
    let k : ℕ = c.args.one.now.editing.changes.now.items.kept_front in
    record {
      within = subst (All (LiesIn text)) (sym c.requires.one.own.is) (own_lie text k (c.text_in_pieces.ensures.inside text));
      entry = c.requires.made;
      check = record {
        outlines = c.after-links.result.now.outlines;
        number = k;
        is = c.in_ok-check.ensures.check ∙ ap (λ (ts : List Piece). check_by c.after-links.result.now.outlines k (spelled text ts)) c.deref.ensures.value;
      };
    }

pub own_parts-requires-clause-after : goal.own_parts-requires-clause-after
own_parts-requires-clause-after c =
    let edit = c.args.one.now.editing.edit.now in
    let old : List ℕ = edit.old.now in
    let text : List ℕ = edit.text.now in
    let changes = c.args.one.now.editing.changes.now in
    let k : ℕ = changes.items.kept_front in
    let own = c.args.one.now.own.now in
    let t = c.args.one.now.shift in
    let there = is_there old changes c.requires.one.one in
    let w = c.args.was in
    let e = c.args.made.now in
    let inside = c.replaces_inside.ensures.inside in
    let spared = c.requires.spared in
    let faults = c.requires.faults in
    let rows : TouchedRows = as_touched c.args.rows in
    let change : RowChange = change_told text (items_of text) (outlines_in old) k (own_item text k) rows in
    let after : IsAfterInside old text t k change = after_any old text t k own w e rows c.requires.row
    (sound_alike c.outcome_told.ensures.tree c.same_spelling_same_tree.ensures.by_spelling c.same_spelling_same_summary.ensures.summary_by_spelling c.same_spelling_same_summary.ensures.bytes_by_spelling old text k own w e there c.requires.was c.requires.one.own c.requires.made)
    (λ n fits. says_alike c.outcome_told.ensures.tree c.same_spelling_same_tree.ensures.by_spelling c.same_spelling_same_summary.ensures.summary_by_spelling c.same_spelling_same_summary.ensures.bytes_by_spelling old text k n own w e there c.requires.was c.requires.one.own c.requires.made fits)
    (λ nowhere. c.edit_outside_the_sets.ensures (edit_of edit) changes t w.entry.now e inside spared faults nowhere)
    (λ unnamed sound. c.edit_around_an_item.ensures (edit_of edit) changes t w.entry.now e inside spared faults unnamed sound)
    (λ n named placed alike. c.edit_inside_a_state.ensures (edit_of edit) changes t w.entry.now e n inside spared faults named placed alike)
    (λ n named placed. c.edit_around_a_state.ensures (edit_of edit) changes t w.entry.now e n inside spared faults named placed)
    (λ n unnamed placed. c.edit_in_a_set.ensures (edit_of edit) changes t w.entry.now e n inside spared faults unnamed placed) in
    let outlines : c.args.one.now.editing.lists.now.links.outlines ≡ outlines_in old = ap (λ l. l.outlines) c.requires.one.editing.lists.links in
    let told : c.in_ok-change.change ≡ change =
    c.in_ok-change.ensures ∙ ap₂ (λ (os : List Outline) (ts : List Piece). change_told text (items_of text) os k (program_item text ts) rows) outlines c.requires.one.own.is in
    subst (IsAfterInside old text t k) (sym told) after

pub own_parts-requires-clause-check : goal.own_parts-requires-clause-check
own_parts-requires-clause-check c =
    let text : List ℕ = c.args.one.now.editing.edit.now.text.now in
    let k : ℕ = c.args.one.now.editing.changes.now.items.kept_front in
    let outlines : c.after-links.result.now.outlines ≡ outlines_in text = c.after-links.ensures ∙ ap (λ l. l.outlines) c.requires.links in
    let tokens : c.deref.result.now ≡ own_tokens text k = c.deref.ensures.value ∙ c.requires.one.own.is in
    c.in_ok-check.ensures.check ∙ ap₂ (λ (os : List Outline) (ts : List Piece). check_by os k (spelled text ts)) outlines tokens

pub returns-clause-ticks : goal.returns-clause-ticks
returns-clause-ticks c =
    let text : List ℕ = c.args.one.now.editing.edit.now.text.now in
    let k : ℕ = c.args.one.now.editing.changes.now.items.kept_front in
    let outlines : c.after-links.result.now.outlines ≡ outlines_in text = c.after-links.ensures ∙ ap (λ l. l.outlines) c.requires.links in
    let tokens : c.deref.result.now ≡ own_tokens text k = c.deref.ensures.value ∙ c.requires.one.own.is in
    let check : c.in_ok-check.check ≡ own_check text k =
    c.in_ok-check.ensures.check ∙ ap₂ (λ (os : List Outline) (ts : List Piece). check_by os k (spelled text ts)) outlines tokens in
    c.in_ok-check.ensures.ticks
    ∙ ap (after_ticks c.args.work.now) (ap (λ (o : Option Checked). length (made_at k o)) check ∙ sym c.replaces_inside.ensures.replaced.stirred ∙ c.in_ok-parts.ensures.stirred)
