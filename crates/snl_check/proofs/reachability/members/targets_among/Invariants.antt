use Rattle.std.proofs.Common.{◌≡◌, ◌≤◌, length, map, take}
use Rattle.snl_check.specs.Collected.{items_in}
use Rattle.snl_check.specs.Members.{target_numbers}
use Rattle.snl_check.specs.Reach.{target_lists}
use Rattle.snl_check.proofs.reachability.members.targets_among.Given as goal

-- there is a list for each state, and the first ones have the targets of the states so far
abbrev pub invariant-loop-number : goal.invariant-loop-number
invariant-loop-number l = record {
  each : length l.states ≤ length l.targets.items;
  lists : target_lists (take l.number l.targets.items) ≡ map (target_numbers l.state_source.row_source.program.text.now (items_in l.state_source.row_source.program) l.state_source.row_source.links.now.outlines l.states) (take l.number l.states);
}
