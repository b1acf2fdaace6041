use Rattle.std.proofs.Common.{◌≡◌, ◌+◌, ◌≤◌, drop}
use Rattle.snl_excerpt.specs.Columns.{counted_on}
use Rattle.snl_excerpt.proofs.column.counted_on.Given as goal

abbrev pub invariant-loop-byte : goal.invariant-loop-byte
invariant-loop-byte l = record {
  same : counted_on l.count (drop l.byte-index l.bytes) ≡ counted_on l.before l.bytes;
  few : l.count ≤ l.before + l.byte-index;
}
