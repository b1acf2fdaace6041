use Rattle.std.proofs.Common.{◌≡◌, map, take}
use Rattle.snl_item_check.specs.Told.{told_kept, told_seen}
use Rattle.snl_reading.proofs.tabling.borrowed_checks.Given as goal

abbrev pub invariant-loop-checked : goal.invariant-loop-checked
invariant-loop-checked l = map told_seen l.borrowed.items ≡ map told_kept (take l.checked-index l.checks)
