use Rattle.std.proofs.Common.{◌≡◌, ◌-◌, ◌≤◌, false, length, true}
use Rattle.std.specs.List.{AllWithin}
use Rattle.snl_names.specs.Keys.{comes_before, spelled}
use Rattle.snl_names.proofs.keys.place.Given as goal

abbrev pub invariant-loop-low : goal.invariant-loop-low
invariant-loop-low l = record {
  from : l.from ≤ l.low;
  within : l.low ≤ l.high;
  all : l.high ≤ length l.keys;
  before : AllWithin (λ n. comes_before n l.name ≡ true) (spelled l.names l.keys) l.from l.low;
  rest : AllWithin (λ n. comes_before n l.name ≡ false) (spelled l.names l.keys) l.high (length l.keys);
}

abbrev pub decreases-loop-low : goal.decreases-loop-low
decreases-loop-low l = l.high - l.low
