use Rattle.std.proofs.Common.{◌≡◌, map, take, option_copied}
use Rattle.snl_kept.specs.Parts.{tree_of_part}
use Rattle.snl_kept.proofs.found.seen.seen_items.Given as goal

abbrev pub invariant-loop-number : goal.invariant-loop-number
invariant-loop-number l = map option_copied l.trees.items ≡ map tree_of_part (take l.number l.parts)
