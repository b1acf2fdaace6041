-- Declarations in a list, the last one of which was taken in last.
use Rattle.std.specs.Prelude.{ℕ, List, map, reverse}
use Rattle.snl_walk.specs.declared.occurrence.Local.{Local}
use Rattle.snl_walk.specs.declared.visible.FewName.{FewName}

-- The last one first.
abbrev pub nearest : List FewName → List (List ℕ × Local)
nearest few = map (λ d. (d.name.now, d.declared)) (reverse few)
