use Rattle.std.proofs.Common.{◌≡◌, ℕ, List, sym, ap, ◌∙◌, subst, arith, take, slice_get, nat_lt, count_by}
use Rattle.std.specs.Prelude.{All, option_map}
use Rattle.std.specs.List.Sorted.{IsNonDecreasingBy}
use Rattle.std.proofs.lemmas.List.Sorted.{IsNonDecreasingBy-take}
use Rattle.snl_lex.specs.declared.marker_list.Marker.{Marker}
use Rattle.snl_lex.specs.LineList.{numbers, setting_markers}
use Rattle.snl_lex.specs.LineShift.{CountsAfter, NumbersFrom, shifted_marker}
use Rattle.snl_lex.proofs.KeptMarkers.{leaves_markers}
use Rattle.snl_lex.proofs.MarkerLists.{markers_order}
use Rattle.snl_lex.proofs.MovedLines.{same_between, same_edit}
use Rattle.snl_lex.proofs.line_shift.LineShift.along.Goals as goal

pub markers_before-early-requires : goal.markers_before-early-requires
markers_before-early-requires c =
    let old = c.args.edit.now.old.now in
    subst (IsNonDecreasingBy (λ (m : Marker). m.end)) (sym (c.as_slice-markers.ensures.value ∙ c.requires.before.at_markers)) (markers_order (numbers old) old)

pub count_after-requires-clause-rising : goal.count_after-requires-clause-rising
count_after-requires-clause-rising c =
    let old = c.args.edit.now.old.now in
    IsNonDecreasingBy-take (λ (m : Marker). m.end) c.markers_before-early.result c.as_slice-markers.result.now
    (subst (IsNonDecreasingBy (λ (m : Marker). m.end)) (sym (c.as_slice-markers.ensures.value ∙ c.requires.before.at_markers)) (markers_order (numbers old) old))

pub returns-then-is_shifted-clause-shift : goal.returns-then-is_shifted-clause-shift
returns-then-is_shifted-clause-shift c =
    let edit = c.args.edit.now in
    let old = edit.old.now in
    let text = edit.text.now in
    let s = c.args.by in
    let k = c.markers_before-early.result in
    let until = c.in_ok-until.until in
    let markers : c.as_slice-markers.result.now ≡ setting_markers old = c.as_slice-markers.ensures.value ∙ c.requires.before.at_markers in
    let new_markers : c.as_slice-new_markers.result.now ≡ setting_markers text = c.as_slice-new_markers.ensures.value ∙ c.requires.after.at_markers in
    let at : List Marker → ℕ = λ (ms : List Marker). count_by (λ m. nat_lt m.end s.start) ms in
    let next : c.marker_at-next.result ≡ slice_get (setting_markers old) k = c.marker_at-next.ensures ∙ ap (λ (ms : List Marker). slice_get ms k) markers in
    leaves_markers old text (record { by = s; until = until })
    (same_edit old text edit.start edit.old_stop edit.new_stop s c.requires.start c.requires.old_stop c.requires.new_stop edit.edit)
    (omega (arith, c.if-by-eq0.false))
    (same_between old s.old_lines s.start s.old_stop edit.start edit.old_stop c.requires.start c.requires.old_stop c.requires.old_lines)
    (same_between text s.new_lines s.start s.new_stop edit.start edit.new_stop c.requires.start c.requires.new_stop c.requires.new_lines)
    edit.short.0
    edit.short.1
    k
    (c.markers_before-early.ensures.count ∙ ap at markers)
    (subst (λ (ms : List Marker). All (CountsAfter old s.start) (take k ms)) markers (c.count_after.ensures c.if-count_after.true))
    c.if-by-until.true
    (subst (NumbersFrom old until) next c.in_ok-until.ensures)
    (sym (ap (λ (ms : List Marker). slice_get ms k) new_markers) ∙ sym c.marker_at.ensures ∙ c.is_shifted.ensures c.if-is_shifted.true ∙ ap (option_map (shifted_marker s)) next)
