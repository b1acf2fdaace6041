use Rattle.std.proofs.Common.{◌&&◌, ℕ, Bool, List, is_some, arith, sym, ap, ◌∙◌, subst}
use Rattle.std.specs.Prelude.{All}
use Rattle.std.specs.List.Sorted.{IsNonDecreasingBy}
use Rattle.snl_lex.specs.declared.marker_list.Marker.{Marker}
use Rattle.snl_lex.specs.declared.piece.Class.{Class}
use Rattle.snl_lex.specs.LineList.{IsShort, names, numbers, replaced_markers}
use Rattle.snl_lex.specs.Lines.{is_marker, marker_file, marker_number}
use Rattle.snl_lex.proofs.MarkerLists.{from_inside, markers_order, markers_short, new_markers}
use Rattle.snl_lex.proofs.line_list.LineList.commit.Goals as goal

pub replace_markers-requires-clause-rising : goal.replace_markers-requires-clause-rising
replace_markers-requires-clause-rising c =
    subst (IsNonDecreasingBy (λ (m : Marker). m.end)) (sym c.requires.lines.at_markers) (markers_order (numbers c.args.edit.now.old.now) c.args.edit.now.old.now)

pub replace_markers-requires-clause-near : goal.replace_markers-requires-clause-near
replace_markers-requires-clause-near c = omega (arith, from_inside _ _ c.args.edit.now.edit c.requires.change, c.args.edit.now.short.0)

pub replace_markers-requires-clause-short : goal.replace_markers-requires-clause-short
replace_markers-requires-clause-short c =
    subst (All IsShort) (sym c.requires.lines.at_markers) (markers_short (numbers c.args.edit.now.old.now) c.args.edit.now.old.now c.args.edit.now.short.0)

pub replace_markers-requires-2-clause-rising : goal.replace_markers-requires-2-clause-rising
replace_markers-requires-2-clause-rising c =
    subst (IsNonDecreasingBy (λ (m : Marker). m.end)) (sym c.requires.lines.at_naming) (markers_order (names c.args.edit.now.old.now) c.args.edit.now.old.now)

pub replace_markers-requires-2-clause-near : goal.replace_markers-requires-2-clause-near
replace_markers-requires-2-clause-near c = omega (arith, from_inside _ _ c.args.edit.now.edit c.requires.change, c.args.edit.now.short.0)

pub replace_markers-requires-2-clause-short : goal.replace_markers-requires-2-clause-short
replace_markers-requires-2-clause-short c =
    subst (All IsShort) (sym c.requires.lines.at_naming) (markers_short (names c.args.edit.now.old.now) c.args.edit.now.old.now c.args.edit.now.short.0)

pub returns : goal.returns
returns c =
    let e = c.args.edit.now in
    let ch = c.args.change.now in
    let sets : Class → List ℕ → Bool = λ (kind : Class) (bytes : List ℕ). is_marker kind && is_some (marker_number bytes) in
    let tells : Class → List ℕ → Bool = λ (kind : Class) (bytes : List ℕ). (is_marker kind && is_some (marker_number bytes)) && is_some (marker_file bytes) in
    record {
      at_ends = c.replace_ends.ensures;
      at_markers = c.replace_markers.ensures
          ∙ ap (λ (made : List Marker). replaced_markers e.start ch.kept_from made e.old_stop e.new_stop c.args.self.now.markers.items) c.deref-2.ensures.value
          ∙ new_markers _ _ e.edit c.requires.change sets c.args.self.now.markers.items c.args.made.now.markers.items c.requires.lines.at_markers c.requires.made.at_markers;
      at_naming = c.replace_markers-2.ensures
          ∙ ap (λ (made : List Marker). replaced_markers e.start ch.kept_from made e.old_stop e.new_stop c.args.self.now.naming.items) c.deref-3.ensures.value
          ∙ new_markers _ _ e.edit c.requires.change tells c.args.self.now.naming.items c.args.made.now.naming.items c.requires.lines.at_naming c.requires.made.at_naming;
    }
