use Rattle.std.proofs.Common.{◌≡◌, map, take}
use Rattle.std.specs.List.{enumerate_from}
use Rattle.snl_check.specs.States.{mark_by_member}
use Rattle.snl_check.proofs.reachability.marks.marks_of.Given as goal

-- the marks of the states so far
abbrev pub invariant-loop-number : goal.invariant-loop-number
invariant-loop-number l = l.marks.items ≡ map (λ p. mark_by_member l.links.outlines l.has_faulty l.reached p.0 p.1) (enumerate_from 0 (take l.number l.named))
