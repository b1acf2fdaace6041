use Rattle.std.proofs.Common.{◌≡◌, ◌+◌, ◌≤◌, ◌++◌, [], ◌∷◌, arith, rules, length, vec_len, vec_capacity, sym, ap, ◌∙◌, append_assoc}
use Rattle.std.proofs.lemmas.List.{append-nil, nil_from_length}
use Rattle.std.specs.Vec.Iter.{into_iter_items}
use Rattle.snl_lists.proofs.Storing.{stores_none, stores_more}
use Rattle.snl_lists.proofs.order.store_all.Goals as goal

pub loop-item-init : goal.loop-item-init
loop-item-init g c =
    let gives = c.into_iter-item-iterator.ensures.into_iter_gives in
    let as_long = ap length gives.0 in
    record {
      stores = stores_none c.args.kept.now c.args.keys.now.items c.requires.keyed;
      all = gives.0;
      room = λ some. omega (arith, as_long, c.requires.room (omega (arith, as_long, some, c.args.items.ok)), c.args.items.ok);
      listed = omega (arith, as_long, c.requires.listed, c.args.items.ok);
    }

pub insert_reserved-key-requires : goal.insert_reserved-key-requires
insert_reserved-key-requires g c =
    let one_less = ap length c.in-Some.ensures.steps.0 in
    omega (arith, one_less, c.loop-item.invariant.room (omega (arith, one_less)))

pub unwrap-requires : goal.unwrap-requires
unwrap-requires g c =
    let one_less = ap length c.in-Some.ensures.steps.0 in
    c.push.ensures.succeeds (omega (arith, one_less, c.loop-item.invariant.listed))

pub loop-item-preserved : goal.loop-item-preserved
loop-item-preserved g c =
    let steps = c.in-Some.ensures.steps in
    let one_less = ap length steps.0 in
    let keys_are : c.push.new.self.items ≡ c.loop-item.keys.items ++ c.insert_reserved-key.result ∷ [] = search rules in
    let len_is : vec_len c.push.new.self ≡ vec_len c.loop-item.keys + 1 = search rules in
    let same : vec_capacity c.loop-item.keys ≤ vec_capacity c.push.new.self = search rules in
    record {
      stores = rw keys_are (stores_more _ _ _ _ _ _ _ _ c.loop-item.invariant.stores c.insert_reserved-key.ensures.was_vacant c.insert_reserved-key.ensures.updates);
      all = append_assoc c.loop-item.yielded (c.in-Some.item ∷ []) (into_iter_items c.next.new.self) ∙ ap (λ l. c.loop-item.yielded ++ l) (sym steps.0) ∙ c.loop-item.invariant.all;
      room = λ some. omega (arith, one_less, c.loop-item.invariant.room (omega (arith, one_less)), c.insert_reserved-key.ensures.len, c.insert_reserved-key.ensures.capacity);
      listed = omega (arith, one_less, c.loop-item.invariant.listed, len_is, same);
    }

pub returns : goal.returns
returns g c =
    let none : length (into_iter_items c.loop-item.item-iterator) ≡ 0 = omega (arith, c.in-None.ensures.steps.0, c.loop-item.item-iterator.rest.ok) in
    let all : c.loop-item.yielded ≡ c.args.items.items =
    sym (append-nil c.loop-item.yielded) ∙ ap (λ l. c.loop-item.yielded ++ l) (sym (nil_from_length (into_iter_items c.loop-item.item-iterator) none)) ∙ c.loop-item.invariant.all in
    record { stores = rw (← all) c.loop-item.invariant.stores }
