use Rattle.std.proofs.Common.{◌≡◌, ◌++◌, map, take}
use Rattle.snl_scope.specs.Spoken.{spoken_by}
use Rattle.snl_scope.proofs.edited_names.add_spoken_by.Given as goal

abbrev pub invariant-loop-outline : goal.invariant-loop-outline
invariant-loop-outline l = map (λ n. n.now) l.names.items ≡ map (λ n. n.now) l.initial.names.items ++ spoken_by (map (λ s. s.now) (take l.outline-index l.outlines))
