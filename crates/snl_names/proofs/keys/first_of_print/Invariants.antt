use Rattle.std.proofs.Common.{◌-◌, ◌≤◌, length}
use Rattle.snl_names.specs.Keys.{AllLess, NoneLess}
use Rattle.snl_names.proofs.keys.first_of_print.Given as goal

-- the place is from `low` up to `high`
abbrev pub invariant-loop-low : goal.invariant-loop-low
invariant-loop-low l = record {
  range : l.low ≤ l.high;
  within : l.high ≤ length l.keys;
  before : AllLess l.keys l.print 0 l.low;
  rest : NoneLess l.keys l.print l.high (length l.keys);
}

abbrev pub decreases-loop-low : goal.decreases-loop-low
decreases-loop-low l = l.high - l.low
