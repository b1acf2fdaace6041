use Rattle.std.proofs.Common.{◌≡◌, ◌≤◌, ℕ, List, length, ap, ◌∙◌, arith}
use Rattle.snl_place.proofs.EditedEnds.{moved_then_replaced}
use Rattle.snl_place.proofs.draft.replace_ends.Goals as goal
use Rattle.snl_lex.specs.LineLaws.{below, below_more}

pub replace-requires-clause-range : goal.replace-requires-clause-range
replace-requires-clause-range c =
    let es : List ℕ = c.args.ends.now.items in
    let front : c.count_before-front.result ≡ below c.args.start es =
    c.count_before-front.ensures.count ∙ ap (below c.args.start) c.deref.ensures.value in
    let back : c.count_before-back.result ≡ below c.args.old_stop es =
    c.count_before-back.ensures.count ∙ ap (below c.args.old_stop) c.deref-2.ensures.value in
    omega (arith, front, back, below_more c.args.start c.args.old_stop es c.requires.order)

pub returns : goal.returns
returns c =
    let es : List ℕ = c.args.ends.now.items in
    let made : List ℕ = c.args.made.now in
    let old_stop : ℕ = c.args.old_stop in
    let new_stop : ℕ = c.args.new_stop in
    let front : c.count_before-front.result ≡ below c.args.start es =
    c.count_before-front.ensures.count ∙ ap (below c.args.start) c.deref.ensures.value in
    let back : c.count_before-back.result ≡ below old_stop es =
    c.count_before-back.ensures.count ∙ ap (below old_stop) c.deref-2.ensures.value in
    let order : below c.args.start es ≤ below old_stop es =
    below_more c.args.start old_stop es c.requires.order in
    let inside : below old_stop es ≤ length es =
    omega (arith, back, c.count_before-back.ensures.inside, ap length c.deref-2.ensures.value) in
    rw (c.replace.ensures, c.move_from.ensures.items, front, back)
    (moved_then_replaced es made (below c.args.start es) (below old_stop es) old_stop new_stop
    order inside)
