use Rattle.std.proofs.Common.{arith}
use Rattle.snl_scope.specs.Places.{is_set_begin}
use Rattle.snl_kept.proofs.SetsBegun.{count_below}
use Rattle.snl_kept.proofs.ways.whole.kept_rows.sets_begun.Goals as goal

pub overflow_add-sets : goal.overflow_add-sets
overflow_add-sets c =
    omega (arith, count_below (is_set_begin c.args.links.now.outlines) c.loop-item.item, c.loop-item.invariant, c.loop-item-test.true, c.loop-item.auto.item-end, c.ranges.count.fits)
