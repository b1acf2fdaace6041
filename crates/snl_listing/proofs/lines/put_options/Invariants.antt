use Rattle.std.proofs.Common.{take}
use Rattle.std.specs.List.{flat_map}
use Rattle.snl_listing.specs.Listing.{option_line}
use Rattle.snl_listing.proofs.lines.put_options.Given as goal

-- the rows so far were put
abbrev pub invariant-loop-row : goal.invariant-loop-row
invariant-loop-row g l = g.S.Sink.Took l.initial.sink l.sink (flat_map (option_line l.indent) (take l.row-index l.rows))
