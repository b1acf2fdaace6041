use Rattle.std.proofs.Common.{◌≡◌, ◌++◌, drop, map}
use Rattle.snl_kept.specs.Faults.{faults_of}
use Rattle.snl_kept.specs.Parts.{item_of_part}
use Rattle.snl_kept.proofs.found.program.add_faults.Given as goal

abbrev pub invariant-loop-number : goal.invariant-loop-number
invariant-loop-number l = l.found.items ++ faults_of l.text (map (item_of_part l.tokens) (drop l.number l.parts)) ≡ l.initial.found.items ++ faults_of l.text (map (item_of_part l.tokens) l.parts)
