use Rattle.std.proofs.Common.{◌≡◌, ◌≤◌, length, map, take}
use Rattle.snl_scope.specs.Places.{open_before}
use Rattle.snl_scope.specs.NameTables.{Placed, head_of}
use Rattle.snl_scope.proofs.items.places.places_of.Given as goal

-- the places, the heads and the open state set are those of the items so far
abbrev pub invariant-loop-item : goal.invariant-loop-item
invariant-loop-item l =
    let ss = l.outlines.outlines in
    record {
      placed : Placed l.places.items ss l.item;
      headed : l.heads.items ≡ take l.item (map head_of ss);
      opened : l.outer ≡ open_before ss l.item;
      within : l.item ≤ length ss;
    }
