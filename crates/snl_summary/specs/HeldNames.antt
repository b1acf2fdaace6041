-- How the bytes of a name are held.
use Rattle.std.specs.Prelude.{◌≤◌, ℕ, List, take}
use Rattle.snl_summary.specs.declared.name.Held.{Held}
use Rattle.snl_summary.specs.declared.name.Held.TheVariants.{Short, Long}

-- Those of a short name are the first of a row.
abbrev pub held_bytes : Held → List ℕ
held_bytes (Short row count) = take count row
held_bytes (Long bytes) = bytes.items

-- There are no more of them than the row has.
abbrev pub Fits : Held → Type 0
Fits (Short row count) = count ≤ 23
Fits (Long bytes) = Unit {0}
