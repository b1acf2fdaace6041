use Rattle.std.proofs.Common.{arith, length, ap}
use Rattle.snl_kept.proofs.Members.{entries_count}
use Rattle.snl_kept.proofs.ways.whole.rejudge.retell.Goals as goal

pub overflow_sub-back : goal.overflow_sub-back
overflow_sub-back c =
    let old = c.args.editing.now.edit.now.old.now in
    omega (arith, c.len.ensures, ap length c.requires.editing.lists.entries, entries_count old, c.requires.editing.changes.items.order)

pub values_after-requires-clause-order : goal.values_after-requires-clause-order
values_after-requires-clause-order c =
    let old = c.args.editing.now.edit.now.old.now in
    omega (arith, c.len.ensures, ap length c.requires.editing.lists.entries, entries_count old, c.requires.editing.changes.items.order)
