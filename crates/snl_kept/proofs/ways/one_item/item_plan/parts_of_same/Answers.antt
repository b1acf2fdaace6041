use Rattle.snl_cut.specs.Cut.{after_ticks}
use Rattle.std.proofs.Common.{◌≡◌, ℕ, All, List, length, Option, sym, ap, ap₂, subst, ◌∙◌}
use Rattle.snl_lex.specs.declared.piece.Piece.{Piece}
use Rattle.snl_lex.specs.declared.line_shift.LineShift.{LineShift}
use Rattle.snl_lex.specs.PieceList.{spelled}
use Rattle.snl_lex.specs.Edit.{edit_of}
use Rattle.snl_lex.specs.Pieces.{LiesIn}
use Rattle.snl_scope.specs.Linked.{faults_of}
use Rattle.snl_summary.specs.declared.summary.Outline.{Outline}
use Rattle.snl_item_check.specs.declared.findings.Checked.{Checked}
use Rattle.snl_kept.specs.declared.plan.RowChange.{RowChange}
use Rattle.snl_kept.specs.Checks.{check_by, links_in, outlines_in}
use Rattle.snl_kept.specs.ItemPlan.{IsAfterInside, own_item}
use Rattle.snl_kept.specs.ReplacedItem.{own_check, own_tokens}
use Rattle.snl_kept.specs.OwnRows.{change_told}
use Rattle.snl_kept.specs.Program.{items_of, program_item}
use Rattle.snl_kept.specs.NewChecks.{made_at}
use Rattle.snl_kept.proofs.InsideMade.{is_there, says_alike, sound_alike}
use Rattle.snl_kept.proofs.MadeRows.{after_any, faults_stay, in_place, items_after, links_after}
use Rattle.snl_kept.proofs.OneItem.{own_lie}
use Rattle.snl_kept.proofs.TextSpans.{items_are_read}
use Rattle.snl_kept.proofs.ways.one_item.item_plan.parts_of_same.Goals as goal

pub own_check-requires-clause-within : goal.own_check-requires-clause-within
own_check-requires-clause-within c =
    let text = c.args.one.now.editing.edit.now.text.now in
    subst (All (LiesIn text)) (sym (c.deref.ensures.value ∙ c.requires.one.own.is)) (own_lie text c.args.one.now.editing.changes.now.items.kept_front (c.text_in_pieces.ensures.inside text))

pub own_change-requires-clause-made : goal.own_change-requires-clause-made
own_change-requires-clause-made c =
    let one = c.args.one.now in
    let edit = one.editing.edit.now in
    let changes = one.editing.changes.now in
    record {
      within = subst (All (LiesIn edit.text.now)) (sym c.requires.one.own.is) (own_lie edit.text.now changes.items.kept_front (c.text_in_pieces.ensures.inside edit.text.now));
      items = items_after edit.old.now edit.text.now changes one.editing.lists.now c.args.made.now c.requires.one.editing.lists c.requires.one.one c.requires.alone c.says_the_same_to_all.ensures.outlines;
      place = in_place (edit_of edit) changes one.shift c.args.was.entry.now c.args.made.now c.replaces_inside.ensures.replaced
          (items_are_read edit.old.now (c.text_in_pieces.ensures.inside edit.old.now)) one.own.now.is.items c.requires.one.own.is;
      entry = c.requires.made;
      check = c.in_ok-check.ensures.check
          ∙ ap (λ (ts : List Piece). check_by one.editing.lists.now.links.outlines changes.items.kept_front (spelled edit.text.now ts)) c.deref.ensures.value;
    }

pub own_parts-requires-clause-check : goal.own_parts-requires-clause-check
own_parts-requires-clause-check c =
    let text : List ℕ = c.args.one.now.editing.edit.now.text.now in
    let k : ℕ = c.args.one.now.editing.changes.now.items.kept_front in
    let outlines = ap (λ l. l.outlines) c.requires.one.editing.lists.links in
    let tokens : c.deref.result.now ≡ own_tokens text k = c.deref.ensures.value ∙ c.requires.one.own.is in
    c.in_ok-check.ensures.check ∙ ap₂ (λ (os : List Outline) (ts : List Piece). check_by os k (spelled text ts)) (outlines ∙ sym c.says_the_same_to_all.ensures.outlines) tokens

pub own_parts-requires-clause-after : goal.own_parts-requires-clause-after
own_parts-requires-clause-after c =
    let edit = c.args.one.now.editing.edit.now in
    let old : List ℕ = edit.old.now in
    let text : List ℕ = edit.text.now in
    let changes = c.args.one.now.editing.changes.now in
    let k : ℕ = changes.items.kept_front in
    let own = c.args.one.now.own.now in
    let before = c.args.one.now.editing.lists.now.links in
    let t : LineShift = c.args.one.now.shift in
    let there = is_there old changes c.requires.one.one in
    let w = c.args.was in
    let e = c.args.made.now in
    let inside = c.replaces_inside.ensures.inside in
    let one = c.replaces_inside.ensures.replaced in
    let spared = c.requires.says.spared in
    let faults : faults_of (links_in text) ≡ faults_of (links_in old) =
    faults_stay (edit_of edit) changes t w.entry.now e one before c.requires.one.editing.lists.links c.args.links.now c.requires.links c.says_the_same_to_all.ensures.outlines in
    let change : RowChange = change_told text (items_of text) (outlines_in old) k (own_item text k) c.args.touched in
    let after : IsAfterInside old text t k change = after_any old text t k own w e c.args.touched c.requires.row
    (sound_alike c.outcome_told.ensures.tree c.same_spelling_same_tree.ensures.by_spelling c.same_spelling_same_summary.ensures.summary_by_spelling c.same_spelling_same_summary.ensures.bytes_by_spelling old text k own w e there c.requires.was c.requires.one.own c.requires.made)
    (λ n fits. says_alike c.outcome_told.ensures.tree c.same_spelling_same_tree.ensures.by_spelling c.same_spelling_same_summary.ensures.summary_by_spelling c.same_spelling_same_summary.ensures.bytes_by_spelling old text k n own w e there c.requires.was c.requires.one.own c.requires.made fits)
    (λ nowhere. c.edit_outside_the_sets.ensures (edit_of edit) changes t w.entry.now e inside spared faults nowhere)
    (λ unnamed sound. c.edit_around_an_item.ensures (edit_of edit) changes t w.entry.now e inside spared faults unnamed sound)
    (λ n named placed alike. c.edit_inside_a_state.ensures (edit_of edit) changes t w.entry.now e n inside spared faults named placed alike)
    (λ n named placed. c.edit_around_a_state.ensures (edit_of edit) changes t w.entry.now e n inside spared faults named placed)
    (λ n unnamed placed. c.edit_in_a_set.ensures (edit_of edit) changes t w.entry.now e n inside spared faults unnamed placed) in
    let outlines : before.outlines ≡ outlines_in old = ap (λ l. l.outlines) c.requires.one.editing.lists.links in
    let told : c.in_ok-change.change ≡ change =
    c.in_ok-change.ensures ∙ ap₂ (λ (os : List Outline) (ts : List Piece). change_told text (items_of text) os k (program_item text ts) c.args.touched) outlines c.requires.one.own.is in
    subst (IsAfterInside old text t k) (sym told) after

pub returns-clause-inside : goal.returns-clause-inside
returns-clause-inside c =
    let edit = c.args.one.now.editing.edit.now in
    record {
      are_links = links_after (edit_of edit) c.args.one.now.editing.changes.now c.args.one.now.shift c.args.was.entry.now c.args.made.now c.replaces_inside.ensures.replaced
          c.args.one.now.editing.lists.now.links c.requires.one.editing.lists.links c.args.links.now c.requires.links c.says_the_same_to_all.ensures.outlines;
      parts = c.in_ok-parts.ensures;
    }

pub returns-clause-ticks : goal.returns-clause-ticks
returns-clause-ticks c =
    let text : List ℕ = c.args.one.now.editing.edit.now.text.now in
    let k : ℕ = c.args.one.now.editing.changes.now.items.kept_front in
    let outlines = ap (λ l. l.outlines) c.requires.one.editing.lists.links in
    let tokens : c.deref.result.now ≡ own_tokens text k = c.deref.ensures.value ∙ c.requires.one.own.is in
    let check : c.in_ok-check.check ≡ own_check text k =
    c.in_ok-check.ensures.check ∙ ap₂ (λ (os : List Outline) (ts : List Piece). check_by os k (spelled text ts)) (outlines ∙ sym c.says_the_same_to_all.ensures.outlines) tokens in
    c.in_ok-check.ensures.ticks
    ∙ ap (after_ticks c.args.work.now) (ap (λ (o : Option Checked). length (made_at k o)) check ∙ sym c.replaces_inside.ensures.replaced.stirred ∙ c.in_ok-parts.ensures.stirred)
