use Rattle.std.proofs.Common.{◌≡◌, map, take}
use Rattle.std.specs.List.{enumerate_from}
use Rattle.snl_check.specs.Collected.{items_in}
use Rattle.snl_check.specs.States.{numbered_row}
use Rattle.snl_check.proofs.rows.state_rows.rows_among.Given as goal

-- the rows of the states so far
abbrev pub invariant-loop-number : goal.invariant-loop-number
invariant-loop-number l =
    l.rows.items ≡ map (numbered_row l.state_source.row_source.program.text.now (items_in l.state_source.row_source.program) l.state_source.row_source.links.now.outlines l.set) (enumerate_from 0 (take l.number l.state-items))
