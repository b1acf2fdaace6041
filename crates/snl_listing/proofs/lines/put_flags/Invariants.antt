use Rattle.std.proofs.Common.{take}
use Rattle.snl_listing.specs.Listing.{numbered, flag_line}
use Rattle.snl_listing.proofs.lines.put_flags.Given as goal

-- the rows so far were put
abbrev pub invariant-loop-place : goal.invariant-loop-place
invariant-loop-place g l = g.S.Sink.Took l.initial.sink l.sink (numbered (flag_line l.text) 1 (take l.place l.rows))
