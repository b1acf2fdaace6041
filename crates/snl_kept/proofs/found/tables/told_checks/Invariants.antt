use Rattle.std.proofs.Common.{◌≡◌, map, take}
use Rattle.snl_item_check.specs.Told.{told_kept, told_seen}
use Rattle.snl_kept.proofs.found.tables.told_checks.Given as goal

abbrev pub invariant-loop-check : goal.invariant-loop-check
invariant-loop-check l = map told_seen l.told.items ≡ map told_kept (map (λ c. c.now) (take l.check-index l.checks))
