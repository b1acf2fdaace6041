use Rattle.std.proofs.Common.{◌≡◌, ◌++◌, drop}
use Rattle.std.specs.List.{filter_map}
use Rattle.snl_check.specs.Members.{target_number}
use Rattle.snl_check.proofs.reachability.marks.target_numbers.Given as goal

-- the numbers of the targets so far, and those of the rest, are those of all
abbrev pub invariant-loop-target : goal.invariant-loop-target
invariant-loop-target l =
    let numbers = filter_map (target_number l.links.outlines l.states l.state) in
    l.numbers.items ++ numbers (drop l.target-index l.targets) ≡ numbers l.targets
