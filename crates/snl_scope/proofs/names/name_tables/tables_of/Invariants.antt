use Rattle.std.proofs.Common.{◌≡◌, ◌≤◌, length}
use Rattle.snl_scope.specs.Names.{entries_before}
use Rattle.snl_scope.specs.NameTables.{Follows}
use Rattle.snl_scope.specs.OutlineList.{IsAt}
use Rattle.snl_scope.proofs.names.name_tables.tables_of.Given as goal

-- the tables follow the entries of the items so far
abbrev pub invariant-loop-item : goal.invariant-loop-item
invariant-loop-item l = record {
  follows : Follows l.outlines.names l.tables.first l.tables.symbols.items l.tables.faults.items (entries_before l.outlines.outlines l.item);
  at : IsAt l.outlines.outlines l.at;
  here : l.at.item ≡ l.item;
  within : l.item ≤ length l.outlines.outlines;
}
