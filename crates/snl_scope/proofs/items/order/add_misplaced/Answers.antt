use Rattle.std.proofs.Common.{◌≡◌, Some, get_or, slice_get, ap, ◌∙◌, arith}
use Rattle.std.proofs.lemmas.Option.{slice_get-get_or}
use Rattle.snl_codes.specs.declared.code.Code.TheVariants.{E03}
use Rattle.snl_summary.specs.declared.summary.ItemKind.TheVariants.{Faulty}
use Rattle.snl_scope.specs.LinkedItems.{LinkedItems}
use Rattle.snl_scope.specs.Order.{is_misplaced}
use Rattle.snl_scope.specs.NameTables.{and_item, before, misplaced_after}
use Rattle.snl_scope.proofs.OrderSteps.{before-step, found-step, misplaced_here}
use Rattle.snl_scope.proofs.items.order.add_misplaced.Goals as goal

pub loop-item-preserved : goal.loop-item-preserved
loop-item-preserved c =
    let l : LinkedItems = record { outlines = c.args.scopes.now; kinds = c.args.kinds.now } in
    let i = c.loop-item.item in
    let h = c.head-opening.result in
    let k = get_or c.args.kinds.now i Faulty in
    let so_far = c.loop-item.invariant in
    let is : slice_get c.args.kinds.now i ≡ Some k = slice_get-get_or c.args.kinds.now i Faulty (omega (arith, c.loop-item-test.true)) in
    record {
      known =
          c.and-before.ensures ∙ ap (λ b. and_item b c.enclosing_set-enclosing_set.result k h.opening) so_far.known
          ∙ ap (λ p. and_item (before l i) p k h.opening) c.enclosing_set-enclosing_set.ensures ∙ before-step l i h k c.head-opening.ensures is;
      found = found-step E03 (is_misplaced l) c.args.faults.now.items c.loop-item.faults.items c.add_if.new.faults.items i c.misplaces-is_misplaced.result so_far.found
          (c.misplaces-is_misplaced.ensures ∙ ap (λ b. misplaced_after b c.enclosing_set-enclosing_set.result k h.opening) so_far.known
          ∙ ap (λ p. misplaced_after (before l i) p k h.opening) c.enclosing_set-enclosing_set.ensures ∙ misplaced_here l i h k c.head-opening.ensures is) (c.in_ok-add_if.ensures);
      within = omega (arith, c.loop-item-test.true);
    }
