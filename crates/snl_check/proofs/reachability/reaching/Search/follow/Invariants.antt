use Rattle.snl_check.specs.Reach.{left_to, target_lists}
use Rattle.snl_check.proofs.Walks.{Follows}
use Rattle.snl_check.proofs.reachability.reaching.Search.follow.Given as goal

abbrev pub invariant-loop-state : goal.invariant-loop-state
invariant-loop-state l = Follows (target_lists l.targets) l.self

abbrev pub decreases-loop-state : goal.decreases-loop-state
decreases-loop-state l = left_to l.self
