-- What names pass for, by the declarations that they resolve to.
use Rattle.std.specs.Prelude.{ℕ, Bool, false, not, List, Option, Some, None}
use Rattle.snl_walk.specs.declared.occurrence.Local.{Local}
use Rattle.snl_walk.specs.declared.other_items.Outer.{Outer}

-- A declaration in the item goes before those outside.
abbrev pub passes : (List ℕ → Option Outer) → List ℕ → Option Local → Option Outer
passes outer name (Some d) = Some (record { flag = d.flag; channel = d.channel })
passes outer name None = outer name

-- It is declared, and as something that is no event flag.
abbrev pub lacks_flag : Option Outer → Bool
lacks_flag None = false
lacks_flag (Some p) = not p.flag

abbrev pub lacks_channel : Option Outer → Bool
lacks_channel None = false
lacks_channel (Some p) = not p.channel
