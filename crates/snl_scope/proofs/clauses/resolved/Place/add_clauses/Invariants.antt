use Rattle.std.proofs.Common.{◌≡◌, ◌++◌, List, map, take}
use Rattle.snl_scope.specs.declared.names.name_tables.Symbol.{Symbol}
use Rattle.snl_summary.specs.declared.summary.Outline.{Outline}
use Rattle.snl_scope.specs.Clauses.{linked_clause}
use Rattle.snl_scope.specs.NameTables.{Tabled}
use Rattle.snl_scope.specs.Names.{entries}
use Rattle.snl_scope.specs.OutlineList.{clause_by}
use Rattle.snl_scope.specs.Places.{enclosing_set}
use Rattle.snl_scope.specs.Resolved.{linked}
use Rattle.snl_scope.proofs.clauses.resolved.Place.add_clauses.Given as goal

-- the clauses so far are found
abbrev pub invariant-loop-clause : goal.invariant-loop-clause
invariant-loop-clause l =
    (ss : List Outline) (symbols : List Symbol)
    → Tabled l.self.outlines.now.names l.self.first.now symbols (entries ss)
    → l.self.enclosing_set ≡ enclosing_set ss l.self.item
    → map linked l.found.items ≡ map linked l.initial.found.items
    ++ map (linked_clause ss l.self.item) (map (clause_by l.self.outlines.now.names) (take l.clause-index l.clauses))
