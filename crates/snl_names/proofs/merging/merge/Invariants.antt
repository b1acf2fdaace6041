use Rattle.snl_names.proofs.Merges.{IsMerging}
use Rattle.snl_names.proofs.merging.merge.Given as goal

abbrev pub invariant-loop-key : goal.invariant-loop-key
invariant-loop-key l = IsMerging l.names l.sorted l.recent l.all.items l.from l.key-index
