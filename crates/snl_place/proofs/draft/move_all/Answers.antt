use Rattle.std.proofs.Common.{ℕ, ◌+◌, ◌-◌, ◌<◌, arith, length, get_or}
use Rattle.std.proofs.lemmas.List.Edits.{map_over_more}
use Rattle.std.proofs.lemmas.List.{get_or_default}
use Rattle.snl_place.proofs.draft.move_all.Goals as goal

pub loop-offset-preserved : goal.loop-offset-preserved
loop-offset-preserved c =
    let items = c.loop-offset.offset-items in
    let i : ℕ = c.loop-offset.offset-index in
    let inside : i < length items = omega (arith, c.loop-offset.auto.offset-items) in
    let x : ℕ = get_or items i 0 in
    rw c.saturating_sub.ensures
    (map_over_more (λ e. (e - c.args.old_stop) + c.args.new_stop) c.args.offsets.now items i
    x (omega arith) c.loop-offset.invariant (get_or_default items i 0 x inside))
