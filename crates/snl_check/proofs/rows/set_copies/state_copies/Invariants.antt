use Rattle.std.proofs.Common.{◌≡◌, take}
use Rattle.snl_check.proofs.rows.set_copies.state_copies.Given as goal

-- the rows so far are copied
abbrev pub invariant-loop-row : goal.invariant-loop-row
invariant-loop-row l = l.copies.items ≡ take l.row-index l.rows
