use Rattle.std.proofs.Common.{◌≡◌, ◌++◌, drop, map}
use Rattle.std.specs.List.{enumerate_from, flat_map}
use Rattle.snl_kept.specs.Checked.{checked_faults, found_in_item}
use Rattle.snl_kept.specs.Linked.{outlines_of}
use Rattle.snl_kept.specs.Parts.{item_of_part}
use Rattle.snl_kept.proofs.found.checks.add_checked_faults.Given as goal

abbrev pub invariant-loop-item : goal.invariant-loop-item
invariant-loop-item l =
    let xs = map (item_of_part l.tokens) l.parts in
    l.found.items ++ flat_map (found_in_item l.text (outlines_of l.text xs)) (enumerate_from l.item (drop l.item xs)) ≡ l.initial.found.items ++ checked_faults l.text xs
