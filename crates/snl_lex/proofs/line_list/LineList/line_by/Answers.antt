use Rattle.std.proofs.Common.{◌+◌, ◌^◌, ◌<◌, ℕ, List, Some, None, arith, length, slice_index, sym, ◌∙◌, subst}
use Rattle.std.specs.List.Sorted.{IsNonDecreasing, IsNonDecreasingBy}
use Rattle.snl_lex.specs.declared.marker_list.Marker.{Marker}
use Rattle.snl_lex.specs.LineList.{names, numbers}
use Rattle.snl_lex.proofs.LineBy.{line_told}
use Rattle.snl_lex.proofs.MarkerLists.{markers_order}
use Rattle.snl_lex.proofs.line_list.LineList.line_by.Goals as goal
use Rattle.snl_lex.specs.LineLaws.{ends_order, ends_under}

pub places_before-count-requires : goal.places_before-count-requires
places_before-count-requires c = subst IsNonDecreasing (sym (c.deref.ensures.value ∙ c.requires.at_ends)) (ends_order c.args.text.now)

pub number_after-requires-clause-order : goal.number_after-requires-clause-order
number_after-requires-clause-order c = subst IsNonDecreasing (sym (c.deref-3.ensures.value ∙ c.requires.at_ends)) (ends_order c.args.text.now)

pub line_begin-begin-requires-clause-below : goal.line_begin-begin-requires-clause-below
line_begin-begin-requires-clause-below c =
    let text = c.args.text.now in
    subst (λ (es : List ℕ). (i : ℕ) → i < length es → slice_index es i + 1 < 2 ^ 64) (sym (c.deref-2.ensures.value ∙ c.requires.at_ends))
    (λ i lt. omega (arith, ends_under 0 text i 0 lt))

pub last_before-requires : goal.last_before-requires
last_before-requires c =
    subst (IsNonDecreasingBy (λ (m : Marker). m.end)) (sym (c.deref-4.ensures.value ∙ c.requires.at_markers)) (markers_order (numbers c.args.text.now) c.args.text.now)

pub last_before-requires-2 : goal.last_before-requires-2
last_before-requires-2 c =
    subst (IsNonDecreasingBy (λ (m : Marker). m.end)) (sym (c.deref-5.ensures.value ∙ c.requires.at_naming)) (markers_order (names c.args.text.now) c.args.text.now)

pub returns-in-Some : goal.returns-in-Some
returns-in-Some c =
    line_told c.args.text.now c.args.offset _ _ _ _ _ _ _ _ _ (Some c.in-Some.marker)
    (c.deref.ensures.value ∙ c.requires.at_ends) (c.deref-2.ensures.value ∙ c.requires.at_ends) (c.deref-3.ensures.value ∙ c.requires.at_ends)
    (c.deref-4.ensures.value ∙ c.requires.at_markers) (c.deref-5.ensures.value ∙ c.requires.at_naming)
    c.places_before-count.ensures.count c.line_begin-begin.ensures c.last_before.ensures c.number_after.ensures (sym c.in-Some.is ∙ c.last_before-2.ensures)

pub returns-in-None : goal.returns-in-None
returns-in-None c =
    line_told c.args.text.now c.args.offset _ _ _ _ _ _ _ _ _ None
    (c.deref.ensures.value ∙ c.requires.at_ends) (c.deref-2.ensures.value ∙ c.requires.at_ends) (c.deref-3.ensures.value ∙ c.requires.at_ends)
    (c.deref-4.ensures.value ∙ c.requires.at_markers) (c.deref-5.ensures.value ∙ c.requires.at_naming)
    c.places_before-count.ensures.count c.line_begin-begin.ensures c.last_before.ensures c.number_after.ensures (sym c.in-None.is ∙ c.last_before-2.ensures)
