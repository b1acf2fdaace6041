use Rattle.std.proofs.Common.{◌≡◌, filter, take}
use Rattle.snl_expected.specs.Groups.{is_single}
use Rattle.snl_expected.proofs.description.kinds_named.Given as goal

abbrev pub invariant-loop-kind : goal.invariant-loop-kind
invariant-loop-kind l = l.kinds.items ≡ filter (is_single l.groups) (take l.kind-index l.expected)
