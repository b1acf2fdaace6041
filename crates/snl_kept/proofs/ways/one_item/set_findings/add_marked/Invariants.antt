use Rattle.std.proofs.Common.{◌≡◌, ◌++◌, map, take}
use Rattle.std.specs.List.{flat_map}
use Rattle.snl_tables.specs.Shifted.{marked, shifted_state}
use Rattle.snl_kept.specs.OwnRows.{named}
use Rattle.snl_kept.specs.Tables.{found_at_state}
use Rattle.snl_kept.proofs.ways.one_item.set_findings.add_marked.Given as goal

-- what is found in the states so far is added
abbrev pub invariant-loop-number : goal.invariant-loop-number
invariant-loop-number l = l.found.items ≡ l.initial.found.items ++ flat_map found_at_state (take l.number (marked l.marks (named l.own (map (shifted_state l.shift) l.states))))
