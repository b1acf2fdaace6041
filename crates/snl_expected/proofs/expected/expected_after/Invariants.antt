use Rattle.std.proofs.Common.{◌≡◌, filter, take}
use Rattle.snl_expected.specs.Expected.{comes, may_not}
use Rattle.snl_expected.specs.Kinds.{all_kinds}
use Rattle.snl_expected.proofs.expected.expected_after.Given as goal

abbrev pub invariant-loop-kind : goal.invariant-loop-kind
invariant-loop-kind l = record {
  kinds : l.kinds.items ≡ filter (comes l.before) (take l.kind-index all_kinds);
  others : l.others.items ≡ filter (may_not l.before) (take l.kind-index all_kinds);
}
