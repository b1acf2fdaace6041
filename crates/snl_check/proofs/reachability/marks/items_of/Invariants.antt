use Rattle.std.proofs.Common.{◌≡◌, map, take}
use Rattle.snl_check.specs.declared.reachability.marks.SetMember.{SetMember}
use Rattle.snl_check.proofs.reachability.marks.items_of.Given as goal

-- the numbers of the items so far
abbrev pub invariant-loop-member : goal.invariant-loop-member
invariant-loop-member l = l.items.items ≡ map (λ (m : SetMember). m.item) (take l.member-index l.named)
