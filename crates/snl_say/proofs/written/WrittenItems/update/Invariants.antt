use Rattle.std.proofs.Common.{◌≡◌, ◌≤◌, length, map, take}
use Rattle.snl_say.specs.Publish.{found_of}
use Rattle.snl_say.proofs.written.WrittenItems.update.Given as goal

-- the items so far say what is found, and there are no more of them in the end
abbrev pub invariant-loop-number : goal.invariant-loop-number
invariant-loop-number l =
    (take l.number l.self ≡ map (λ s. found_of s) (take l.number l.all)) × (l.number ≤ length l.self) × (length l.self ≤ length l.all)
