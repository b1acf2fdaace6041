use Rattle.std.proofs.Common.{◌≡◌, take}
use Rattle.std.specs.List.{filter}
use Rattle.snl_scope.specs.NameTables.{flag_stands}
use Rattle.snl_scope.proofs.clauses.flags.flags_of.Given as goal

-- the flags among the numbers so far
abbrev pub invariant-loop-number : goal.invariant-loop-number
invariant-loop-number l = l.flags.items ≡ filter (flag_stands l.tables.symbols.items) (take l.number-index l.numbers)
