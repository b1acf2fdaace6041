use Rattle.std.proofs.Common.{◌≡◌, ◌++◌, drop, map}
use Rattle.snl_check.specs.Channels.{assigned_channel, by_element}
use Rattle.snl_check.specs.Collected.{assigned}
use Rattle.snl_check.proofs.rows.channels.add_list.Given as goal

-- the channels so far and those of the rest are those of all
abbrev pub invariant-loop-element : goal.invariant-loop-element
invariant-loop-element l =
    let channel = assigned_channel l.assign.item l.assign.token l.assign.variable in
    map assigned l.channels.items ++ map channel (by_element l.element (drop l.element l.lists)) ≡ map assigned l.initial.channels.items ++ map channel (by_element 0 l.lists)
