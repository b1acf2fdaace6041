use Rattle.std.proofs.Common.{◌≡◌, ◌<◌, All, length, arith, subst}
use Rattle.std.proofs.lemmas.List.{length-map}
use Rattle.std.proofs.lemmas.List.Elements.{All-map}
use Rattle.snl_check.specs.Reach.{target_lists}
use Rattle.snl_rule_tests.proofs.walks.set_of.Goals as goal

pub returns : goal.returns
returns c =
    let set = c.loop-row.set.items in
    let count : length c.args.rows.now ≡ length (target_lists set) = omega (arith, length-map set (λ row. row.items), c.loop-row.invariant.as_long, c.loop-row.auto.row-index-end) in
    subst (λ n. All (All (λ t. t < n)) (target_lists set)) count (All-map (All (λ t. t < length c.args.rows.now)) (λ row. row.items) set c.loop-row.invariant.states)
