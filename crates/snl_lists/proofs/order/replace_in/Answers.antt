use Rattle.std.proofs.Common.{◌≡◌, length, ap, arith, length-append}
use Rattle.snl_lists.proofs.Storing.{turned}
use Rattle.snl_lists.proofs.order.replace_in.Goals as goal

pub slice_bounds-remove_all-end : goal.slice_bounds-remove_all-end
slice_bounds-remove_all-end g c =
    let s = c.store_all.ensures.stores in
    omega (arith, ap length s.listed, length-append c.args.keys.now.items s.fresh, c.deref.ensures.len, c.args.keys.now.ok, c.store_all.new.keys.ok)

pub turn-requires-clause-within : goal.turn-requires-clause-within
turn-requires-clause-within g c = omega (arith, c.len-after.ensures)

pub returns : goal.returns
returns g c =
    let after : c.len-after.result ≡ length c.args.keys.now.items = omega (arith, c.len-after.ensures, c.args.keys.now.ok) in
    record {
      turned = turned c.args.kept.now c.store_all.new.kept c.remove_all.new.kept c.args.keys.now.items c.store_all.new.keys.items c.turn.new.keys.items c.args.items.items c.args.start c.args.stop
          c.requires.keyed.stored c.store_all.ensures.stores c.requires.range (omega (arith, c.args.keys.now.ok))
          (rw c.deref.ensures.value at c.remove_all.ensures.others) (rw after at c.turn.ensures);
    }
