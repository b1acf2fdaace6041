use Rattle.std.proofs.Common.{◌≡◌, arith, sym, ap, ◌∙◌, subst}
use Rattle.std.specs.List.Sorted.{IsNonDecreasing}
use Rattle.snl_lex.specs.LineList.{line_ends}
use Rattle.snl_lex.proofs.Changes.{edit_lengths}
use Rattle.snl_lex.proofs.LineEnds.{after_above, after_under, edited_ends}
use Rattle.snl_lex.proofs.line_list.replace_ends.Goals as goal
use Rattle.snl_lex.specs.LineLaws.{below, below_more, ends_order}

pub places_before-front-requires : goal.places_before-front-requires
places_before-front-requires c = subst IsNonDecreasing (sym (c.deref.ensures.value ∙ c.requires.ends)) (ends_order c.args.edit.now.old.now)

pub places_before-back-requires : goal.places_before-back-requires
places_before-back-requires c = subst IsNonDecreasing (sym (c.deref-2.ensures.value ∙ c.requires.ends)) (ends_order c.args.edit.now.old.now)

pub replace_places-requires-clause-range : goal.replace_places-requires-clause-range
replace_places-requires-clause-range c =
    let e = c.args.edit.now in
    let front : c.places_before-front.result ≡ below e.start (line_ends e.old.now) = c.places_before-front.ensures.count ∙ ap (below e.start) (c.deref.ensures.value ∙ c.requires.ends) in
    let back : c.places_before-back.result ≡ below e.old_stop (line_ends e.old.now) = c.places_before-back.ensures.count ∙ ap (below e.old_stop) (c.deref-2.ensures.value ∙ c.requires.ends) in
    omega (arith, front, back, below_more e.start e.old_stop (line_ends e.old.now) e.edit.old_order)

pub replace_places-requires-clause-after : goal.replace_places-requires-clause-after
replace_places-requires-clause-after c =
    let e = c.args.edit.now in
    let back : c.places_before-back.result ≡ below e.old_stop (line_ends e.old.now) = c.places_before-back.ensures.count ∙ ap (below e.old_stop) (c.deref-2.ensures.value ∙ c.requires.ends) in
    rw (back, c.requires.ends) (after_above e.old.now e.old_stop e.edit.old_inside)

pub replace_places-requires-clause-fits : goal.replace_places-requires-clause-fits
replace_places-requires-clause-fits c = λ i lt.
    let e = c.args.edit.now in
    let back : c.places_before-back.result ≡ below e.old_stop (line_ends e.old.now) = c.places_before-back.ensures.count ∙ ap (below e.old_stop) (c.deref-2.ensures.value ∙ c.requires.ends) in
    let under = after_under e.old.now e.old_stop e.edit.old_inside i (rw (back, c.requires.ends) at lt) in
    rw (back, c.requires.ends) (omega (arith, under, edit_lengths e.old.now e.text.now e.start e.old_stop e.new_stop e.edit, e.edit.old_inside, e.edit.new_inside, e.short.0, e.short.1))

pub returns : goal.returns
returns c =
    let e = c.args.edit.now in
    let front : c.places_before-front.result ≡ below e.start (line_ends e.old.now) = c.places_before-front.ensures.count ∙ ap (below e.start) (c.deref.ensures.value ∙ c.requires.ends) in
    let back : c.places_before-back.result ≡ below e.old_stop (line_ends e.old.now) = c.places_before-back.ensures.count ∙ ap (below e.old_stop) (c.deref-2.ensures.value ∙ c.requires.ends) in
    rw (c.replace_places.ensures, front, back, c.requires.ends, c.requires.made) (edited_ends e.old.now e.text.now e.start e.old_stop e.new_stop e.edit)
