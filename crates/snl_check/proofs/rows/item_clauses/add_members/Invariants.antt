use Rattle.std.proofs.Common.{◌≡◌, ◌++◌, drop, map}
use Rattle.std.specs.List.{flat_map}
use Rattle.snl_check.specs.Collected.{placed}
use Rattle.snl_check.specs.Clauses.{clause_in_member, item_clause}
use Rattle.snl_check.proofs.rows.item_clauses.add_members.Given as goal

-- the clauses so far and those of the rest are those of all
abbrev pub invariant-loop-member : goal.invariant-loop-member
invariant-loop-member l =
    map placed l.clauses.items ++ map (item_clause l.item) (flat_map clause_in_member (drop l.member-index l.members))
    ≡ map placed l.initial.clauses.items ++ map (item_clause l.item) (flat_map clause_in_member l.members)
