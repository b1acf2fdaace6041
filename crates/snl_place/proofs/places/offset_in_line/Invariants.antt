use Rattle.std.proofs.Common.{◌≡◌, ◌+◌, drop}
use Rattle.snl_place.specs.Places.{offset_in}
use Rattle.snl_place.proofs.places.offset_in_line.Given as goal

-- The bytes that are left have the offset of the units that are left.
abbrev pub invariant-loop-i : goal.invariant-loop-i
invariant-loop-i l =
    offset_in l.encoding 0 l.fn.character l.bytes
    ≡ l.i + offset_in l.encoding 0 l.left (drop l.i l.bytes)
