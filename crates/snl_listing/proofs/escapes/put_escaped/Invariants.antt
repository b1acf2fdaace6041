use Rattle.std.proofs.Common.{take}
use Rattle.std.specs.List.{flat_map}
use Rattle.snl_listing.specs.Escapes.{escaped_byte}
use Rattle.snl_listing.proofs.escapes.put_escaped.Given as goal

-- the bytes so far were put
abbrev pub invariant-loop-byte : goal.invariant-loop-byte
invariant-loop-byte g l = g.S.Sink.Took l.initial.sink l.sink (flat_map escaped_byte (take l.byte-index l.bytes))
