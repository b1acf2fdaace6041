use Rattle.std.proofs.Common.{◌≡◌, [], take}
use Rattle.std.specs.List.{fold}
use Rattle.snl_expected.specs.Groups.{all_groups, with_group}
use Rattle.snl_expected.proofs.description.groups_named.Given as goal

abbrev pub invariant-loop-group : goal.invariant-loop-group
invariant-loop-group l = l.groups.items ≡ fold (with_group l.expected l.others) [] (take l.group-index all_groups)
