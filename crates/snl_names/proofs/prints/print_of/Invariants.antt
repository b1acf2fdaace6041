use Rattle.std.proofs.Common.{◌≡◌, take}
use Rattle.std.specs.List.{fold}
use Rattle.snl_names.specs.Prints.{with_byte}
use Rattle.snl_names.proofs.prints.print_of.Given as goal

abbrev pub invariant-loop-byte : goal.invariant-loop-byte
invariant-loop-byte l = l.print ≡ fold with_byte 0 (take l.byte-index l.name)
