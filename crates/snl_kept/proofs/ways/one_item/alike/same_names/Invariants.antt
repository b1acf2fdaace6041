use Rattle.std.proofs.Common.{◌≡◌, map, take}
use Rattle.snl_kept.proofs.ways.one_item.alike.same_names.Given as goal

-- the names so far are the same
abbrev pub invariant-loop-number : goal.invariant-loop-number
invariant-loop-number l = map (λ m. m.name) (take l.number l.ones) ≡ map (λ m. m.name) (take l.number l.others)
