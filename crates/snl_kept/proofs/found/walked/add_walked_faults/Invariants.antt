use Rattle.std.proofs.Common.{◌≡◌, ◌++◌, drop}
use Rattle.std.specs.List.{flat_map}
use Rattle.snl_kept.specs.Tables.{found_in_set}
use Rattle.snl_kept.proofs.found.walked.add_walked_faults.Given as goal

abbrev pub invariant-loop-set : goal.invariant-loop-set
invariant-loop-set l = l.found.items ++ flat_map found_in_set (drop l.set-index l.set-items) ≡ l.initial.found.items ++ flat_map found_in_set l.set-items
