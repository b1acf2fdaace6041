use Rattle.std.proofs.Common.{ℕ, ◌+◌, ◌-◌, ◌/◌, ◌<◌, arith, length}
use Rattle.snl_names.proofs.Places.{less_to, none_from}
use Rattle.snl_names.proofs.keys.first_of_print.Goals as goal

pub loop-low-preserved-then-keys-middle : goal.loop-low-preserved-then-keys-middle
loop-low-preserved-then-keys-middle c =
    let middle : ℕ = c.loop-low.low + (c.loop-low.high - c.loop-low.low) / 2 in
    let there : middle < length c.args.keys.now = omega (arith, c.loop-low.invariant.within, c.loop-low-test.true) in
    record {
      range = omega (arith, c.loop-low-test.true);
      within = c.loop-low.invariant.within;
      before = less_to c.args.keys.now c.args.print middle (record { print = 0; number = 0 }) c.requires there c.if-keys-middle.true;
      rest = c.loop-low.invariant.rest;
    }

pub loop-low-preserved : goal.loop-low-preserved
loop-low-preserved c =
    let middle : ℕ = c.loop-low.low + (c.loop-low.high - c.loop-low.low) / 2 in
    let there : middle < length c.args.keys.now = omega (arith, c.loop-low.invariant.within, c.loop-low-test.true) in
    record {
      range = omega arith;
      within = omega (arith, there);
      before = c.loop-low.invariant.before;
      rest = none_from c.args.keys.now c.args.print middle (record { print = 0; number = 0 }) c.requires there (omega (arith, c.if-keys-middle.false));
    }
