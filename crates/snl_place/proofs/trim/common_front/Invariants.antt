use Rattle.std.proofs.Common.{◌-◌, ◌≡◌, ◌≤◌, length, take}
use Rattle.snl_place.proofs.trim.common_front.Given as goal

abbrev pub invariant-bytes : goal.invariant-bytes
invariant-bytes l = record {
  old : l.count ≤ length l.old;
  new : l.count ≤ length l.new;
  same : take l.count l.old ≡ take l.count l.new;
}

abbrev pub decreases-bytes : goal.decreases-bytes
decreases-bytes l = l.most - l.count
