use Rattle.std.proofs.Common.{◌≡◌, take}
use Rattle.snl_kept.proofs.ways.one_item.own_links.same_faults.Given as goal

-- the findings so far are the same
abbrev pub invariant-loop-number : goal.invariant-loop-number
invariant-loop-number l = take l.number l.ones ≡ take l.number l.others
