use Rattle.std.proofs.Common.{◌≡◌, map, take}
use Rattle.snl_check.specs.Collected.{assigned, items_in}
use Rattle.snl_check.specs.Tables.{channel_row}
use Rattle.snl_check.proofs.rows.channel_rows.channel_rows.Given as goal

-- the rows of the channels so far
abbrev pub invariant-loop-channel : goal.invariant-loop-channel
invariant-loop-channel l =
    l.rows.items ≡ map (channel_row l.row_source.program.text.now (items_in l.row_source.program) l.row_source.links.now.outlines) (map assigned (take l.channel-index l.channels))
