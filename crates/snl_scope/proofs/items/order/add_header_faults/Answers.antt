use Rattle.std.proofs.Common.{◌≡◌, ◌||◌, ◌&&◌, get_or, not, Some, slice_get, ap, ◌∙◌, arith}
use Rattle.std.proofs.lemmas.Option.{slice_get-get_or}
use Rattle.snl_codes.specs.declared.code.Code.TheVariants.{E05}
use Rattle.snl_summary.specs.declared.summary.ItemKind.TheVariants.{Faulty}
use Rattle.snl_scope.specs.LinkedItems.{LinkedItems}
use Rattle.snl_scope.specs.Order.{is_faulty, is_program_word, is_repeated_header}
use Rattle.snl_scope.proofs.OrderSteps.{any-step, found-step, repeated_here}
use Rattle.snl_scope.proofs.items.order.add_header_faults.Goals as goal

pub loop-item-preserved : goal.loop-item-preserved
loop-item-preserved c =
    let l : LinkedItems = record { outlines = c.args.scopes.now; kinds = c.args.kinds.now } in
    let i = c.loop-item.item in
    let h = c.head-opening.result in
    let k = get_or c.args.kinds.now i Faulty in
    let so_far = c.loop-item.invariant in
    let is : slice_get c.args.kinds.now i ≡ Some k = slice_get-get_or c.args.kinds.now i Faulty (omega (arith, c.loop-item-test.true)) in
    record {
      known = c.program_so_far-has_program.ensures ∙ ap (λ b. is_program_word h.opening || b) so_far.known ∙ any-step l.outlines i h c.head-opening.ensures (λ h. is_program_word h.opening);
      found = found-step E05 (is_repeated_header l) c.args.faults.now.items c.loop-item.faults.items c.add_if.new.faults.items i c.is_repeated.result so_far.found
          (c.is_repeated.ensures ∙ ap (λ b. not (is_faulty k) && (is_program_word h.opening && b)) so_far.known ∙ repeated_here l i h k c.head-opening.ensures is) (c.in_ok-add_if.ensures);
      within = omega (arith, c.loop-item-test.true);
    }
