use Rattle.std.proofs.Common.{◌≡◌, ◌++◌, drop, map, take}
use Rattle.snl_tables.proofs.shift_lines.RowsShiftsLines.shift_lines.Given as goal

abbrev pub invariant-loop-row : goal.invariant-loop-row
invariant-loop-row g l = l.row-items ≡ map (g.T.ShiftsLines.moved l.shift) (take l.row-index l.fn.self) ++ drop l.row-index l.fn.self
