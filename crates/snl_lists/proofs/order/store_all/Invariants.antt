use Rattle.std.proofs.Common.{◌≡◌, ◌+◌, ◌<◌, ◌≤◌, ◌++◌, length, vec_len, vec_capacity}
use Rattle.std.specs.Vec.Iter.{into_iter_items}
use Rattle.slab.specs.Slab.{slab_len}
use Rattle.snl_lists.specs.Keyed.{Stores}
use Rattle.snl_lists.proofs.order.store_all.Given as goal

abbrev pub invariant-loop-item : goal.invariant-loop-item
invariant-loop-item g l = record {
  stores : Stores l.fn.kept l.kept l.fn.keys.items l.keys.items l.yielded;
  all : l.yielded ++ into_iter_items l.item-iterator ≡ l.fn.items.items;
  room : 0 < length (into_iter_items l.item-iterator) → slab_len l.kept + length (into_iter_items l.item-iterator) ≤ l.kept.capacity;
  listed : vec_len l.keys + length (into_iter_items l.item-iterator) ≤ vec_capacity l.keys;
}
