use Rattle.std.proofs.Common.{◌-◌, ◌<◌, arith, length}
use Rattle.snl_place.proofs.line_places.line_begin.Goals as goal

pub overflow_add-result : goal.overflow_add-result
overflow_add-result c =
    let there : c.args.count - 1 < length c.args.ends.now =
    omega (arith, c.requires.count, c.if-count-eq0.false) in
    omega (arith, c.requires.fits (c.args.count - 1) there)
