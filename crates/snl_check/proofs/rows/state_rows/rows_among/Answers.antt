use Rattle.std.proofs.Common.{◌≡◌, ◌<◌, ◌+◌, ◌++◌, ◌∷◌, ◌&&◌, [], length, map, take, get_or, sym, ap, subst, ◌∙◌, arith}
use Rattle.std.specs.List.{enumerate_from}
use Rattle.std.proofs.lemmas.Option.{slice_get-get_or}
use Rattle.snl_scope.specs.Order.{is_named_state}
use Rattle.snl_scope.specs.Places.{stands_in}
use Rattle.snl_check.specs.Collected.{items_in}
use Rattle.snl_check.specs.Members.{has_faulty, is_faulty_item, states_in}
use Rattle.snl_check.specs.States.{is_reached_in, is_repeated, numbered_row, state_row}
use Rattle.snl_check.proofs.Beside.{enumerated_more}
use Rattle.snl_check.proofs.Linked.{counted}
use Rattle.snl_check.proofs.Marks.{marks_alike}
use Rattle.snl_check.proofs.Sets.{within_below}
use Rattle.snl_check.proofs.rows.state_rows.rows_among.Goals as goal

pub mark_of-mark-requires-clause-state : goal.mark_of-mark-requires-clause-state
mark_of-mark-requires-clause-state c =
    let row_source = c.args.state_source.now.row_source in
    let ss = row_source.links.now.outlines in
    let n = c.loop-number.number in
    let states = c.deref-state-items.result.now in
    let is : states ≡ states_in ss c.args.set = c.deref-state-items.ensures.value ∙ c.requires.states in
    let count : length row_source.program.trees.now ≡ length ss = counted row_source.program ss c.requires.state_source.linked.row_source.program c.requires.state_source.linked.outlines in
    let within : get_or states n 0 < length ss =
    subst (λ l. get_or l n 0 < length ss) (sym is) (within_below (λ j. is_named_state ss j && stands_in ss c.args.set j) (length ss) n 0 (subst (λ l. n < length l) is c.loop-number-test.true)) in
    omega (arith, within, count)

pub state_row-requires-clause-item : goal.state_row-requires-clause-item
state_row-requires-clause-item c =
    let row_source = c.args.state_source.now.row_source in
    let ss = row_source.links.now.outlines in
    let n = c.loop-number.number in
    let states = c.deref-state-items.result.now in
    let is : states ≡ states_in ss c.args.set = c.deref-state-items.ensures.value ∙ c.requires.states in
    let count : length row_source.program.trees.now ≡ length ss = counted row_source.program ss c.requires.state_source.linked.row_source.program c.requires.state_source.linked.outlines in
    let within : get_or states n 0 < length ss =
    subst (λ l. get_or l n 0 < length ss) (sym is) (within_below (λ j. is_named_state ss j && stands_in ss c.args.set j) (length ss) n 0 (subst (λ l. n < length l) is c.loop-number-test.true)) in
    omega (arith, within, count)

pub loop-number-preserved : goal.loop-number-preserved
loop-number-preserved c =
    let row_source = c.args.state_source.now.row_source in
    let text = row_source.program.text.now in
    let xs = items_in row_source.program in
    let ss = row_source.links.now.outlines in
    let k = c.args.set in
    let n = c.loop-number.number in
    let states = c.deref-state-items.result.now in
    let item = get_or states n 0 in
    let row = numbered_row text xs ss k in
    let so_far = map row (enumerate_from 0 (take n states)) in
    let is : states ≡ states_in ss k = c.deref-state-items.ensures.value ∙ c.requires.states in
    let zero : n ≡ 0 + n = omega arith in
    let here : n < length (states_in ss k) = subst (λ l. n < length l) is c.loop-number-test.true in
    c.in_ok-push.ensures.items ∙ ap (λ l. l ++ c.in_ok-state_row.field-0 ∷ []) c.loop-number.invariant
    ∙ ap (λ r. so_far ++ r ∷ []) (
    c.in_ok-state_row.ensures
    ∙ ap (λ m. state_row text xs ss m item) (c.mark_of-mark.ensures
    ∙ marks_alike (is_faulty_item xs item) (is_repeated ss item) c.args.members.now.has_faulty (has_faulty xs ss k) _ (is_reached_in text xs ss k n) c.requires.faulty
    (λ clear. c.requires.reached clear n here))
    ∙ ap (λ j. row (j, item)) zero)
    ∙ sym (enumerated_more row 0 states n item (slice_get-get_or states n 0 c.loop-number-test.true))
