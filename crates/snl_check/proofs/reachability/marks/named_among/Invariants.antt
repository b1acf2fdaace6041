use Rattle.std.proofs.Common.{◌≡◌, filter, take}
use Rattle.snl_check.specs.Members.{has_name}
use Rattle.snl_check.proofs.reachability.marks.named_among.Given as goal

-- those so far that have a name
abbrev pub invariant-loop-member : goal.invariant-loop-member
invariant-loop-member l = l.named.items ≡ filter has_name (take l.member-index l.members)
