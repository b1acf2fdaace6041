use Rattle.std.proofs.Common.{◌≡◌, length}
use Rattle.snl_scope.specs.Below.{all_below}
use Rattle.snl_scope.specs.Places.{is_set_begin}
use Rattle.snl_kept.proofs.ways.whole.kept_rows.sets_begun.Given as goal

-- those that begin so far
abbrev pub invariant-loop-item : goal.invariant-loop-item
invariant-loop-item l = l.sets ≡ length (all_below (is_set_begin l.links.outlines) l.item)
