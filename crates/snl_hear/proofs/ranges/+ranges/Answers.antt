use Rattle.std.proofs.Common.{◌<◌, length, sym, subst, arith, rules}
use Rattle.json.specs.Tree.{items_tokens, json_tokens, members_tokens}
use Rattle.json.specs.Value.{items_view, members_view, value_view}
use Rattle.json.proofs.Trees.{item_smaller, member_smaller}
use Rattle.snl_hear.proofs.ranges.+ranges.Goals as goal

pub items_in_range-are_in_range-requires : goal.items_in_range-are_in_range-requires
items_in_range-are_in_range-requires t c =
    let xs = c.args.items.now in
    let all = length (items_tokens (items_view xs)) in
    let smaller : length (json_tokens (value_view c.item-item.result)) < all =
    subst (λ y. length (json_tokens (value_view y)) < all) (sym c.item-item.is)
    (item_smaller xs c.loop-item.item-index c.item-item.result (omega arith)) in
    search rules

pub members_in_range-are_in_range-requires : goal.members_in_range-are_in_range-requires
members_in_range-are_in_range-requires t c =
    let xs = c.args.members.now in
    let all = length (members_tokens (members_view xs)) in
    let smaller : length (json_tokens (value_view c.member-item.result.1)) < all =
    subst (λ y. length (json_tokens (value_view y.1)) < all) (sym c.member-item.is)
    (member_smaller xs c.loop-member.member-index c.member-item.result (omega arith)) in
    search rules
