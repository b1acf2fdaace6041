use Rattle.std.proofs.Common.{◌≡◌, ◌++◌, drop, map}
use Rattle.std.specs.List.{flat_map}
use Rattle.snl_check.specs.Channels.{channels_of_clause}
use Rattle.snl_check.specs.Collected.{assigned, items_in, resolved}
use Rattle.snl_check.proofs.rows.channels.assigned_channels.Given as goal

-- the channels so far and those of the rest are those of all
abbrev pub invariant-loop-clause : goal.invariant-loop-clause
invariant-loop-clause l =
    let channels = channels_of_clause l.row_source.program.text.now (items_in l.row_source.program) in
    map assigned l.channels.items ++ flat_map channels (map resolved (drop l.clause-index l.clause-items)) ≡ flat_map channels (map resolved l.clause-items)
