-- What the tests take for declared around an item.
use Rattle.std.specs.Prelude.{ℕ, Bool, true, false, not, if◌then◌else◌, codes, List, Option, Some, None}
use Rattle.std.specs.Str.{bytes_eq}
use Rattle.snl_walk.specs.declared.other_items.Outer.{Outer}

abbrev pub passing : Bool → Bool → Option Outer
passing flag channel = Some (record { flag = flag; channel = channel })

abbrev pub outer_of : List ℕ → Option Outer
outer_of name =
    if bytes_eq name (codes "e") then passing true false
    else (if bytes_eq name (codes "c") then passing false true
    else (if bytes_eq name (codes "g") then passing true true else (if bytes_eq name (codes "v") then passing false false else None)))

abbrev pub misses : List ℕ → Bool
misses name = not (bytes_eq name (codes "z"))
