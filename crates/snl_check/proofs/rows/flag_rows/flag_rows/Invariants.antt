use Rattle.std.proofs.Common.{◌≡◌, ◌++◌, drop}
use Rattle.std.specs.List.{filter_map}
use Rattle.snl_check.specs.Collected.{items_in}
use Rattle.snl_check.specs.Tables.{flag_row_at}
use Rattle.snl_check.proofs.rows.flag_rows.flag_rows.Given as goal

-- the rows so far and those of the rest are all
abbrev pub invariant-loop-number : goal.invariant-loop-number
invariant-loop-number l =
    let row = flag_row_at (items_in l.row_source.program) l.row_source.links.now.outlines in
    l.rows.items ++ filter_map row (drop l.number-index l.number-items) ≡ filter_map row l.number-items
