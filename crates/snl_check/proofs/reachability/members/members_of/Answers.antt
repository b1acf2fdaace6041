use Rattle.std.proofs.Common.{◌≡◌, ◌<◌, ◌≤◌, ◌&&◌, ℕ, length, nat_lt, sym, ap, ◌∙◌, arith}
use Rattle.snl_scope.specs.Below.{all_below, any_below}
use Rattle.snl_scope.specs.Order.{is_named_state}
use Rattle.snl_scope.specs.Places.{stands_in}
use Rattle.snl_check.specs.Collected.{items_in}
use Rattle.snl_check.specs.Members.{is_faulty_item}
use Rattle.snl_check.proofs.Linked.{counted}
use Rattle.snl_check.proofs.Sets.{members_all, members_any, members_no_one, members_none}
use Rattle.snl_check.proofs.reachability.members.members_of.Goals as goal

pub end_of-end-requires-clause-count : goal.end_of-end-requires-clause-count
end_of-end-requires-clause-count c = counted c.args.row_source.now.program c.args.row_source.now.links.now.outlines c.requires.linked.row_source.program c.requires.linked.outlines

pub loop-item-init : goal.loop-item-init
loop-item-init c =
    let ss = c.args.row_source.now.links.now.outlines in
    let k = c.args.set in
    let end = c.end_of-end.result in
    let count : length c.args.row_source.now.program.trees.now ≡ length ss = counted c.args.row_source.now.program ss c.requires.linked.row_source.program c.requires.linked.outlines in
    let within : end ≤ length ss = omega (arith, c.end_of-end.ensures.within, count) in
    let items : (j : ℕ) → j < length ss → stands_in ss k j ≡ (nat_lt k j && nat_lt j end) = λ j l. c.end_of-end.ensures.items j (omega (arith, l, count)) in
    record {
      states = c.clear.ensures.items ∙ sym (members_none ss k (is_named_state ss) end c.end_of-end.ensures.some within items);
      faulty = sym (members_no_one ss k (is_faulty_item (items_in c.args.row_source.now.program)) end c.end_of-end.ensures.some within items);
    }

pub returns-clause-states : goal.returns-clause-states
returns-clause-states c =
    let ss = c.args.row_source.now.links.now.outlines in
    let k = c.args.set in
    let end = c.end_of-end.result in
    let count : length c.args.row_source.now.program.trees.now ≡ length ss = counted c.args.row_source.now.program ss c.requires.linked.row_source.program c.requires.linked.outlines in
    let within : end ≤ length ss = omega (arith, c.end_of-end.ensures.within, count) in
    let items : (j : ℕ) → j < length ss → stands_in ss k j ≡ (nat_lt k j && nat_lt j end) = λ j l. c.end_of-end.ensures.items j (omega (arith, l, count)) in
    let at_end : c.loop-item.item ≡ end = omega (arith, c.loop-item-test.false, c.loop-item.auto.item-end, c.end_of-end.ensures.some) in
    c.loop-item.invariant.states ∙ ap (all_below (λ j. is_named_state ss j && stands_in ss k j)) at_end
    ∙ sym (members_all ss k (is_named_state ss) end c.end_of-end.ensures.some within items)

pub returns-clause-faulty : goal.returns-clause-faulty
returns-clause-faulty c =
    let ss = c.args.row_source.now.links.now.outlines in
    let k = c.args.set in
    let end = c.end_of-end.result in
    let count : length c.args.row_source.now.program.trees.now ≡ length ss = counted c.args.row_source.now.program ss c.requires.linked.row_source.program c.requires.linked.outlines in
    let within : end ≤ length ss = omega (arith, c.end_of-end.ensures.within, count) in
    let items : (j : ℕ) → j < length ss → stands_in ss k j ≡ (nat_lt k j && nat_lt j end) = λ j l. c.end_of-end.ensures.items j (omega (arith, l, count)) in
    let at_end : c.loop-item.item ≡ end = omega (arith, c.loop-item-test.false, c.loop-item.auto.item-end, c.end_of-end.ensures.some) in
    c.loop-item.invariant.faulty ∙ ap (any_below (λ j. is_faulty_item (items_in c.args.row_source.now.program) j && stands_in ss k j)) at_end
    ∙ sym (members_any ss k (is_faulty_item (items_in c.args.row_source.now.program)) end c.end_of-end.ensures.some within items)
