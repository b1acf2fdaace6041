use Rattle.std.proofs.Common.{◌<◌, ◌≤◌, List, length, ap, ◌∙◌, arith}
use Rattle.std.specs.List.{slice_set}
use Rattle.snl_tables.specs.declared.rows.SetRow.{SetRow}
use Rattle.snl_tables.specs.Shifted.{changed_at, with_wake_in}
use Rattle.snl_tables.proofs.Changing.{changed_by_write, none_changed}
use Rattle.snl_tables.proofs.set_wake.wake_in_sets.Goals as goal

pub returns-then-set-len : goal.returns-then-set-len
returns-then-set-len c =
    let items = c.sets.inside.rows.items in
    let change = with_wake_in c.args.number c.args.wake in
    let inside : c.args.set < length items = omega arith in
    ap (slice_set items c.args.set) (c.wake_in.ensures ∙ ap change c.index_mut.ensures.value)
    ∙ changed_by_write change items c.args.set c.index_mut.result.now inside
    ∙ ap (λ (rows : List SetRow). changed_at change c.args.set rows) c.sets.view_is

pub returns-else-set-len : goal.returns-else-set-len
returns-else-set-len c =
    let past : length c.args.sets.now ≤ c.args.set = omega (arith, ap length c.sets.view_is) in
    none_changed (with_wake_in c.args.number c.args.wake) c.args.sets.now c.args.set past
