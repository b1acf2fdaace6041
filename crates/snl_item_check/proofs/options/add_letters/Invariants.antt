use Rattle.std.proofs.Common.{◌≡◌, ◌++◌, drop}
use Rattle.std.specs.List.{enumerate_from, flat_map}
use Rattle.snl_item_check.specs.Options.{found_at_letter}
use Rattle.snl_item_check.proofs.options.add_letters.Given as goal

-- what is found at the letters so far and at the rest is what is found at all
abbrev pub invariant-loop-byte : goal.invariant-loop-byte
invariant-loop-byte l =
    l.faults.items ++ flat_map (found_at_letter l.known l.line.letters) (enumerate_from l.byte (drop l.byte l.letters))
    ≡ l.initial.faults.items ++ flat_map (found_at_letter l.known l.line.letters) (enumerate_from 0 l.letters)
