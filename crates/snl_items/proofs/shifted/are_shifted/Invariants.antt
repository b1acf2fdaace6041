use Rattle.std.proofs.Common.{◌≡◌, map, take}
use Rattle.snl_lex.specs.Shift.{shifted_piece}
use Rattle.snl_items.proofs.shifted.are_shifted.Given as goal

abbrev pub invariant-loop-number : goal.invariant-loop-number
invariant-loop-number l = take l.number l.made ≡ map (shifted_piece l.shift) (take l.number l.old)
