use Rattle.snl_kept.specs.SetMembers.{AreMembersBelow}
use Rattle.snl_kept.proofs.ways.one_item.set_members.set_members.Given as goal

-- the members so far
abbrev pub invariant-loop-number : goal.invariant-loop-number
invariant-loop-number l = AreMembersBelow l.text l.links.outlines l.set l.number l.members.items
