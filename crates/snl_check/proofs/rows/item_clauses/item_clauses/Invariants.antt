use Rattle.std.proofs.Common.{◌≡◌, map}
use Rattle.snl_check.specs.Collected.{placed}
use Rattle.snl_check.specs.Clauses.{item_clauses_before}
use Rattle.snl_check.specs.Collected.{items_in}
use Rattle.snl_check.proofs.rows.item_clauses.item_clauses.Given as goal

-- the clauses of the items so far are collected
abbrev pub invariant-loop-item : goal.invariant-loop-item
invariant-loop-item l = map placed l.clauses.items ≡ item_clauses_before (items_in l.program) l.item
