use Rattle.std.proofs.Common.{◌≡◌, map, take}
use Rattle.snl_alike.specs.Moved.{edits_in}
use Rattle.snl_alike.proofs.moving.all_become.Given as goal

-- the values so far become those of the other list
abbrev pub invariant-loop-number : goal.invariant-loop-number
invariant-loop-number g l =
    take l.number l.new ≡ map (g.T.Moving.moved (edits_in l.moves)) (take l.number l.old)
