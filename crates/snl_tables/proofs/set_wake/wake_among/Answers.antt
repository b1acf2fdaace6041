use Rattle.std.proofs.Common.{◌<◌, ◌≤◌, List, length, ap, ◌∙◌, arith}
use Rattle.std.specs.List.{slice_set}
use Rattle.snl_tables.specs.declared.rows.StateRow.{StateRow}
use Rattle.snl_tables.specs.Shifted.{changed_at, with_own_wake}
use Rattle.snl_tables.proofs.Changing.{changed_by_write, none_changed}
use Rattle.snl_tables.proofs.set_wake.wake_among.Goals as goal

pub returns-then-number-len : goal.returns-then-number-len
returns-then-number-len c =
    let items = c.states.inside.rows.items in
    let change = with_own_wake c.args.wake in
    let inside : c.args.number < length items = omega arith in
    ap (slice_set items c.args.number) (c.wake_by.ensures ∙ ap change c.index_mut.ensures.value)
    ∙ changed_by_write change items c.args.number c.index_mut.result.now inside
    ∙ ap (λ (rows : List StateRow). changed_at change c.args.number rows) c.states.view_is

pub returns-else-number-len : goal.returns-else-number-len
returns-else-number-len c =
    let past : length c.args.states.now ≤ c.args.number = omega (arith, ap length c.states.view_is) in
    none_changed (with_own_wake c.args.wake) c.args.states.now c.args.number past
