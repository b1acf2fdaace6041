use Rattle.std.proofs.Common.{ℕ, None, ◌<◌, arith, get_or, length}
use Rattle.std.proofs.lemmas.List.{get_or_default}
use Rattle.std.proofs.lemmas.List.Edits.{map_over_more}
use Rattle.snl_lex.specs.declared.marker_list.Marker.{Marker}
use Rattle.snl_lex.specs.LineList.{moved_marker}
use Rattle.snl_lex.proofs.marker_list.move_all.Goals as goal

pub loop-marker-preserved : goal.loop-marker-preserved
loop-marker-preserved c =
    let items = c.loop-marker.marker-items in
    let i : ℕ = c.loop-marker.marker-index in
    let inside : i < length items = omega (arith, c.loop-marker.auto.marker-items) in
    let none : Marker = record { end = 0; number = 0; file = None } in
    rw c.moved.ensures
    (map_over_more (moved_marker c.args.old_stop c.args.new_stop) c.args.markers.now items i (get_or items i none) (omega arith) c.loop-marker.invariant (get_or_default items i _ _ inside))
