use Rattle.std.proofs.Common.{take}
use Rattle.std.specs.List.{flat_map}
use Rattle.snl_listing.specs.Parts.{part_text}
use Rattle.snl_listing.proofs.parts.put_line.Given as goal

-- the parts so far were put
abbrev pub invariant-loop-part : goal.invariant-loop-part
invariant-loop-part g l = g.S.Sink.Took l.initial.sink l.sink (flat_map part_text (take l.part-index l.parts))
