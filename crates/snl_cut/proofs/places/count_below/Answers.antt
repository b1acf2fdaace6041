use Rattle.std.proofs.Common.{◌+◌, ◌-◌, ◌/◌, arith, ℕ}
use Rattle.snl_cut.proofs.Below.{below_low, below_high}
use Rattle.snl_cut.proofs.places.count_below.Goals as goal
use Rattle.snl_cut.specs.CutLaws.{below_inside}

pub loop-low-init : goal.loop-low-init
loop-low-init g c = record { least = omega arith; most = omega (arith, below_inside c.args.place (g.E.Ends.listed c.args.ends.now)); inside = omega arith }

pub loop-low-preserved-then-end-place : goal.loop-low-preserved-then-end-place
loop-low-preserved-then-end-place g c =
    let middle : ℕ = c.loop-low.low + (c.loop-low.high - c.loop-low.low) / 2 in
    let above = below_high c.args.place 0 (g.E.Ends.listed c.args.ends.now) middle c.requires (omega arith) (omega (arith, c.end-end.ensures, c.if-end-place.true)) in
    record { least = omega (arith, above); most = c.loop-low.invariant.most; inside = c.loop-low.invariant.inside }

pub loop-low-preserved : goal.loop-low-preserved
loop-low-preserved g c =
    let middle : ℕ = c.loop-low.low + (c.loop-low.high - c.loop-low.low) / 2 in
    record { least = c.loop-low.invariant.least; most = below_low c.args.place (g.E.Ends.listed c.args.ends.now) middle (omega arith) (omega (arith, c.end-end.ensures, c.if-end-place.false)); inside = omega arith }
