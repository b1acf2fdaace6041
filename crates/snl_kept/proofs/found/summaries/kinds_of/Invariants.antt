use Rattle.std.proofs.Common.{◌≡◌, take, map}
use Rattle.snl_summary.specs.Summaries.{kind_of}
use Rattle.snl_kept.specs.Parts.{item_of_part}
use Rattle.snl_kept.proofs.found.summaries.kinds_of.Given as goal

abbrev pub invariant-loop-part : goal.invariant-loop-part
invariant-loop-part l = l.kinds.items ≡ map (λ x. kind_of x.tree) (map (item_of_part l.tokens) (take l.part-index l.parts))
