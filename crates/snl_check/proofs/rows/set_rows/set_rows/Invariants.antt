use Rattle.std.proofs.Common.{◌≡◌, map}
use Rattle.snl_scope.specs.Below.{all_below}
use Rattle.snl_scope.specs.Places.{is_set_begin}
use Rattle.snl_check.specs.Collected.{items_in}
use Rattle.snl_check.specs.States.{set_row}
use Rattle.snl_check.proofs.rows.set_rows.set_rows.Given as goal

-- the rows of the state sets that the items so far begin
abbrev pub invariant-loop-item : goal.invariant-loop-item
invariant-loop-item l =
    l.rows.items ≡ map (set_row l.state_source.row_source.program.text.now (items_in l.state_source.row_source.program) l.state_source.row_source.links.now.outlines) (all_below (is_set_begin l.state_source.row_source.links.now.outlines) l.item)
