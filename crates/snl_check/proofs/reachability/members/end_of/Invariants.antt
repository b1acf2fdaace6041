use Rattle.std.proofs.Common.{◌≡◌, ◌<◌, ℕ, true}
use Rattle.snl_scope.specs.Places.{stands_in}
use Rattle.snl_check.proofs.reachability.members.end_of.Given as goal

-- the items so far are in the set
abbrev pub invariant-loop-item : goal.invariant-loop-item
invariant-loop-item l = (j : ℕ) → l.set < j → j < l.item → stands_in l.links.outlines l.set j ≡ true
