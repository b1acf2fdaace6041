use Rattle.std.proofs.Common.{◌≡◌, ◌++◌, drop, map}
use Rattle.std.specs.List.{zip}
use Rattle.snl_check.specs.Collected.{placed, resolved}
use Rattle.snl_check.proofs.rows.item_clauses.resolved_clauses.Given as goal

-- the clauses so far and those of the rest are all
abbrev pub invariant-loop-number : goal.invariant-loop-number
invariant-loop-number l =
    map resolved l.clauses.items ++ zip (drop l.number (map placed l.placed-items)) (drop l.number l.links) ≡ zip (map placed l.placed-items) l.links
