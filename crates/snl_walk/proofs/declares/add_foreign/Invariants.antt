use Rattle.std.proofs.Common.{◌≡◌, ◌++◌, true, map, drop}
use Rattle.snl_walk.specs.Declares.{declare}
use Rattle.snl_walk.proofs.declares.add_foreign.Given as goal

abbrev pub invariant-loop-name : goal.invariant-loop-name
invariant-loop-name l =
    l.declared.items ++ map (λ n. declare n true true) (drop l.name-index l.names)
    ≡ l.initial.declared.items ++ map (λ n. declare n true true) l.names
