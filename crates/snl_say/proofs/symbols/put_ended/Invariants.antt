use Rattle.std.proofs.Common.{length}
use Rattle.snl_say.specs.Parents.{innermost_first}
use Rattle.snl_say.proofs.ParentSteps.{HaveEnded}
use Rattle.snl_say.proofs.symbols.put_ended.Given as goal

abbrev pub invariant-loop-symbol : goal.invariant-loop-symbol
invariant-loop-symbol l =
    HaveEnded l.depth l.initial.out.items l.out.items (innermost_first l.initial.parents.items)
    (innermost_first l.parents.items) l.later

abbrev pub decreases-loop-symbol : goal.decreases-loop-symbol
decreases-loop-symbol l = length (innermost_first l.parents.items)
