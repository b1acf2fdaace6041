use Rattle.std.proofs.Common.{ℕ, ◌+◌, ◌-◌, ◌<◌, arith, length, get_or}
use Rattle.std.proofs.lemmas.List.Edits.{map_over_more}
use Rattle.std.proofs.lemmas.List.{get_or_default}
use Rattle.snl_lex.proofs.line_list.move_places.Goals as goal

pub loop-place-preserved : goal.loop-place-preserved
loop-place-preserved c =
    let items = c.loop-place.place-items in
    let i : ℕ = c.loop-place.place-index in
    let inside : i < length items = omega (arith, c.loop-place.auto.place-items) in
    map_over_more (λ e. (e - c.args.old_stop) + c.args.new_stop) c.args.places.now items i (get_or items i 0) (omega arith) c.loop-place.invariant (get_or_default items i _ _ inside)
