use Rattle.std.proofs.Common.{List, ◌++◌, ◌<◌, ℕ, length, map, take}
use Rattle.std.specs.List.{AllByRecursion as Each}
use Rattle.snl_scope.specs.Names.{Entry, declared_entry}
use Rattle.snl_scope.specs.NameTables.{Follows}
use Rattle.snl_scope.specs.OutlineList.{declared_by}
use Rattle.snl_names.specs.NameBook.{AllDiffer}
use Rattle.snl_scope.proofs.names.name_tables.NameTables.add_declared.Given as goal

-- the tables follow the declared names so far, after whatever they followed before
abbrev pub invariant-loop-declared : goal.invariant-loop-declared
invariant-loop-declared l =
    (names : List (List ℕ)) (es : List Entry)
    → AllDiffer names → Each (λ d. d.name < length names) l.declares
    → Follows names l.initial.self.first l.initial.self.symbols.items l.initial.self.faults.items es
    → Follows names l.self.first l.self.symbols.items l.self.faults.items (es ++ map (declared_entry l.scope l.item) (map (declared_by names) (take l.declared-index l.declares)))
