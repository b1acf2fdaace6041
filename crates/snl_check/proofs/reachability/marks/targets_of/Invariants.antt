use Rattle.std.proofs.Common.{◌≡◌, map, take}
use Rattle.snl_check.specs.Members.{numbers_by_member}
use Rattle.snl_check.specs.Reach.{target_lists}
use Rattle.snl_check.proofs.reachability.marks.targets_of.Given as goal

-- the targets of the states so far
abbrev pub invariant-loop-member : goal.invariant-loop-member
invariant-loop-member l = target_lists l.targets.items ≡ map (numbers_by_member l.links.outlines l.states) (take l.member-index l.named)
