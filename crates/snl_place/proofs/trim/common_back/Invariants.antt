use Rattle.std.proofs.Common.{◌-◌, ◌≡◌, ◌≤◌, length, drop}
use Rattle.snl_place.proofs.trim.common_back.Given as goal

abbrev pub invariant-bytes : goal.invariant-bytes
invariant-bytes l = record {
  old : l.count ≤ length l.old;
  new : l.count ≤ length l.new;
  same : drop (length l.old - l.count) l.old ≡ drop (length l.new - l.count) l.new;
}

abbrev pub decreases-bytes : goal.decreases-bytes
decreases-bytes l = l.most - l.count
