use Rattle.std.proofs.Common.{◌≡◌, ◌++◌, map, take, drop}
use Rattle.snl_lex.specs.LineList.{moved_marker}
use Rattle.snl_lex.proofs.marker_list.move_all.Given as goal

abbrev pub invariant-loop-marker : goal.invariant-loop-marker
invariant-loop-marker l = l.marker-items ≡ map (moved_marker l.old_stop l.new_stop) (take l.marker-index l.fn.markers) ++ drop l.marker-index l.fn.markers
