use Rattle.std.proofs.Common.{◌≢◌, ◌≡◌, ℕ, ◌-◌, ◌<◌, length, take, sym, subst, ap, ◌∙◌, arith}
use Rattle.std.proofs.lemmas.Bool.{eqb-false}
use Rattle.std.proofs.lemmas.List.{length-take-le}
use Rattle.snl_tables.specs.declared.rows.Tables.{Tables}
use Rattle.snl_lex.specs.Edit.{edit_of}
use Rattle.snl_items.specs.Items.{marks_of}
use Rattle.snl_scope.specs.Below.{all_below}
use Rattle.snl_scope.specs.LinkedItems.{LinkedItems}
use Rattle.snl_scope.specs.Places.{is_set_begin}
use Rattle.snl_moved.specs.Quiet.{sets_before}
use Rattle.snl_kept.specs.Checks.{outlines_in}
use Rattle.snl_kept.specs.Tables.{tables_in}
use Rattle.snl_kept.proofs.FrontLines.{front_lines}
use Rattle.snl_kept.proofs.QuietItems.{channels_kept, few_begun, sets_kept, up}
use Rattle.snl_kept.proofs.ways.whole.kept_rows.kept_rows.Goals as goal

pub slice_bounds-result-end : goal.slice_bounds-result-end
slice_bounds-result-end c =
    let edit = edit_of c.args.editing.now.edit.now in
    let made = c.args.made.now in
    let front = c.args.editing.now.changes.now.items.kept_front in
    let none : length made ≢ 0 = eqb-false (length made) 0 (sym c.is_empty.ensures ∙ c.if-is_empty.false) in
    let some : 0 < length made = omega (arith, none) in
    let first : c.saturating_sub.result ≡ sets_before (outlines_in edit.old) front =
    c.saturating_sub.ensures ∙ ap (λ n. n - 1) (c.sets_begun-begun.ensures ∙ ap (λ (l : LinkedItems). length (all_below (is_set_begin l.outlines) front)) c.requires.editing.lists.links) in
    let sets = c.as_slice-sets.ensures ∙ ap (λ (t : Tables). t.sets) c.requires.editing.tables in
    let few = few_begun edit c.args.editing.now.changes.now c.requires.editing.changes made c.requires.made some
    (c.ends_in_order.ensures.rise (marks_of edit.old))
    c.outcome_told.ensures.tree c.same_spelling_same_tree.ensures.by_spelling c.same_spelling_same_summary.ensures.bytes in
    sym (length-take-le c.saturating_sub.result c.as_slice-sets.result.now (omega (arith, first, few, ap length sets)))

pub returns : goal.returns
returns c =
    let text_edit = c.args.editing.now.edit.now in
    let edit = edit_of text_edit in
    let changes = c.args.editing.now.changes.now in
    let changed = c.requires.editing.changes in
    let front = changes.items.kept_front in
    let made = c.args.made.now in
    let none : length made ≢ 0 = eqb-false (length made) 0 (sym c.is_empty.ensures ∙ c.if-is_empty.false) in
    let some : 0 < length made = omega (arith, none) in
    let rises = c.ends_in_order.ensures.rise (marks_of edit.old) in
    let tree = c.outcome_told.ensures.tree in
    let by_spelling = c.same_spelling_same_tree.ensures.by_spelling in
    let bytes = c.same_spelling_same_summary.ensures.bytes in
    let quiet_before = sym c.were_quiet.ensures ∙ c.if-not-were_quiet.false in
    let quiet_now = sym c.are_quiet_now.ensures ∙ c.if-not-are_quiet_now.false in
    let lines = front_lines edit changes changed text_edit.edit text_edit.short.0 text_edit.short.1 rises
    (up edit changes changed made c.requires.made some rises tree by_spelling bytes)
    c.text_in_pieces.ensures.cut c.tokens_around_stay.ensures in
    let n = c.saturating_sub.result in
    let first : n ≡ sets_before (outlines_in edit.old) front =
    c.saturating_sub.ensures ∙ ap (λ n. n - 1) (c.sets_begun-begun.ensures ∙ ap (λ (l : LinkedItems). length (all_below (is_set_begin l.outlines) front)) c.requires.editing.lists.links) in
    let sets : c.as_slice-sets.result.now ≡ (tables_in edit.old).sets = c.as_slice-sets.ensures ∙ ap (λ (t : Tables). t.sets) c.requires.editing.tables in
    let few = few_begun edit changes changed made c.requires.made some rises tree by_spelling bytes in
    let count : length (take n c.as_slice-sets.result.now) ≡ n = length-take-le n c.as_slice-sets.result.now (omega (arith, first, few, ap length sets)) in
    let kept : take n (tables_in edit.text).sets ≡ take n (tables_in edit.old).sets =
    subst (λ (m : ℕ). take m (tables_in edit.text).sets ≡ take m (tables_in edit.old).sets) (sym first)
    (sets_kept edit changes changed made c.requires.made some rises tree by_spelling bytes c.sets_stay.ensures lines quiet_before quiet_now) in
    record {
      channels =
          c.as_slice.ensures
          ∙ ap (λ (t : Tables). t.channels) c.requires.editing.tables
          ∙ sym (channels_kept edit changes changed made c.requires.made some rises tree by_spelling bytes c.channels_stay.ensures quiet_before quiet_now);
      sets = ap (take n) sets ∙ sym kept ∙ sym (ap (λ (m : ℕ). take m (tables_in edit.text).sets) count);
    }
