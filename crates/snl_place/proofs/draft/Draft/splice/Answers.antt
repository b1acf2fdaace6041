use Rattle.std.proofs.Common.{◌≡◌, ◌≤◌, ◌<◌, ◌+◌, ℕ, List, length, ap, sym, subst, ◌∙◌, arith}
use Rattle.std.proofs.Common.{get_or}
use Rattle.std.specs.List.Sorted.{IsNonDecreasing}
use Rattle.snl_lex.specs.LineList.{line_ends, line_ends_from}
use Rattle.snl_lists.specs.Moves.{replaced, replaced_and_moved}
use Rattle.snl_place.proofs.EditedEnds.{edited_ends}
use Rattle.snl_place.proofs.LineEnds.{ends_in}
use Rattle.snl_place.proofs.draft.Draft.splice.Goals as goal
use Rattle.snl_lex.specs.LineLaws.{below, ends_order}

pub replace_ends-requires-clause-rising : goal.replace_ends-requires-clause-rising
replace_ends-requires-clause-rising c =
    subst IsNonDecreasing (sym (c.in_ok-reserve-2.ensures.items ∙ c.self.invariant))
    (ends_order c.self.inside.text.items)

pub replace_ends-requires-clause-fits : goal.replace_ends-requires-clause-fits
replace_ends-requires-clause-fits c = λ i lt.
    let text : List ℕ = c.self.inside.text.items in
    let P : List ℕ → Type 0 =
    λ (es : List ℕ). i < length es → get_or es i 0 < length text in
    let ends : P c.reserve-2.new.self.items =
    subst P (sym (c.in_ok-reserve-2.ensures.items ∙ c.self.invariant)) (ends_in text i) in
    let under : get_or c.reserve-2.new.self.items i 0 < length text = ends lt in
    let size : length text ≡ length c.args.self.now = ap length c.self.view_is in
    let room = c.in_ok-reserve.ensures in
    omega (
      arith,
      under,
      size,
      c.requires.order,
      c.requires.inside,
      room.ok,
      room.len,
      c.self.inside.text.ok,
      c.reserve.new.self.small,
    )

pub invariant_of-self-2 : goal.invariant_of-self-2
invariant_of-self-2 c =
    let text : List ℕ = c.self.inside.text.items in
    let es : List ℕ = line_ends text in
    let new : List ℕ = c.args.new.now in
    let start : ℕ = c.args.start in
    let stop : ℕ = c.args.stop in
    let new_stop : ℕ = start + length new in
    let made : c.deref.result.now ≡ line_ends_from start new =
    c.deref.ensures.value ∙ c.in_ok-made.ensures in
    let inside : stop ≤ length text =
    omega (arith, ap length c.self.view_is, c.requires.inside) in
    let E : List ℕ → List ℕ = λ (xs : List ℕ).
    replaced_and_moved xs (below start xs) (below stop xs) c.deref.result.now stop new_stop in
    let M : List ℕ → List ℕ = λ (m : List ℕ).
    replaced_and_moved es (below start es) (below stop es) m stop new_stop in
    let after : c.replace.new.list.items ≡ replaced text start stop new =
    c.replace.ensures
    ∙ ap (λ (t : List ℕ). replaced t start stop new) c.in_ok-reserve.ensures.items in
    c.replace_ends.ensures ∙ ap E (c.in_ok-reserve-2.ensures.items ∙ c.self.invariant)
    ∙ ap M made ∙ edited_ends text new start stop c.requires.order inside
    ∙ sym (ap line_ends after)
