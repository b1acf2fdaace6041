use Rattle.std.proofs.Common.{◌≡◌, ℕ, ◌<◌, ◌∙◌, [], List, ap, arith, false, get_or, length, sym}
use Rattle.snl_names.specs.Keys.{comes_before, spelled}
use Rattle.snl_names.proofs.Places.{length_spelled, rest_from, spelled_at}
use Rattle.snl_names.proofs.keys.reach.Goals as goal

pub returns-else-is_before-clause-rest : goal.returns-else-is_before-clause-rest
returns-else-is_before-clause-rest c =
    let all : List (List ℕ) = spelled c.args.names.now c.args.keys.now in
    let there : c.loop-to.to < length c.args.keys.now = omega (arith, c.loop-to-test.true) in
    let here : comes_before (get_or all c.loop-to.to []) c.args.name.now ≡ false =
    ap (λ (n : List ℕ). comes_before n c.args.name.now) (spelled_at c.args.names.now c.args.keys.now c.loop-to.to [] (record { print = 0; number = 0 }) there) ∙ sym c.is_before.ensures ∙ c.if-is_before.false in
    rest_from all c.args.name.now c.loop-to.to (length c.args.keys.now) c.requires.keys.order (omega (arith, length_spelled c.args.names.now c.args.keys.now)) here
