use Rattle.std.proofs.Common.{◌≡◌, ◌+◌, ◌<◌, length, subst, sym, ap, ◌∙◌, arith}
use Rattle.snl_scope.specs.Places.{item_is}
use Rattle.snl_scope.specs.NameTables.{Marked, is_sought, set_of, with_mark}
use Rattle.snl_scope.proofs.Marks.{if_some, marked-push, set_within}
use Rattle.snl_scope.proofs.OrderSteps.{sought_here}
use Rattle.snl_scope.proofs.items.order.sets_with.Goals as goal

pub mark-requires : goal.mark-requires
mark-requires c =
    let ss = c.args.scopes.now in
    let i = c.loop-item.item in
    let below : i < length ss = omega (arith, c.loop-item-test.true, c.item_count-count.ensures) in
    if_some c.set_of.result (λ k. k < length c.loop-item.marks.items) (λ j e.
    set_within (is_sought c.args.sought) ss i c.loop-item.marks.items c.is_sought-is_sought.result j c.loop-item.invariant.marked below
    (sym (c.set_of.ensures ∙ ap (set_of c.is_sought-is_sought.result) c.enclosing_set.ensures) ∙ e))

pub loop-item-preserved : goal.loop-item-preserved
loop-item-preserved c =
    let ss = c.args.scopes.now in
    let i = c.loop-item.item in
    let marks = c.loop-item.marks.items in
    let is = c.is_sought-is_sought.result in
    let below : i < length ss = omega (arith, c.loop-item-test.true, c.item_count-count.ensures) in
    let told : item_is (is_sought c.args.sought) ss i ≡ is = sought_here ss i c.head.result c.head.ensures c.args.sought ∙ sym c.is_sought-is_sought.ensures in
    record {
      marked = subst (λ m. Marked (is_sought c.args.sought) m ss (i + 1)) (sym (c.mark.ensures ∙ ap (λ p. with_mark marks p) (c.set_of.ensures ∙ ap (set_of is) c.enclosing_set.ensures)))
          (marked-push (is_sought c.args.sought) ss i is told marks below c.loop-item.invariant.marked);
      within = omega (arith, below);
    }
