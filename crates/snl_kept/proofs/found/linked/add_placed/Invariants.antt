use Rattle.std.proofs.Common.{◌≡◌, ◌++◌, drop, map}
use Rattle.snl_kept.specs.Linked.{linked_finding}
use Rattle.snl_kept.specs.Parts.{item_of_part}
use Rattle.snl_kept.proofs.found.linked.add_placed.Given as goal

abbrev pub invariant-loop-fault : goal.invariant-loop-fault
invariant-loop-fault l =
    l.found.items ++ map (linked_finding (map (item_of_part l.tokens) l.parts)) (drop l.fault-index l.faults)
    ≡ l.initial.found.items ++ map (linked_finding (map (item_of_part l.tokens) l.parts)) l.faults
