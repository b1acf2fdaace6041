use Rattle.std.proofs.Common.{◌<◌, ◌||◌, length, ap, ◌∙◌, arith}
use Rattle.snl_codes.specs.declared.code.Code.TheVariants.{E06}
use Rattle.snl_scope.specs.declared.items.heads.Sought.TheVariants as sought
use Rattle.snl_scope.specs.Order.{is_ss_word, is_stateless}
use Rattle.snl_scope.specs.NameTables.{Marked, is_sought}
use Rattle.snl_scope.proofs.Marks.{stateless_here}
use Rattle.snl_scope.proofs.OrderSteps.{any-step, found-step}
use Rattle.snl_scope.proofs.items.order.add_missing_states.Goals as goal

pub loop-item-preserved : goal.loop-item-preserved
loop-item-preserved c =
    let ss = c.args.scopes.now in
    let i = c.loop-item.item in
    let h = c.head-head.result in
    let so_far = c.loop-item.invariant in
    let marks = c.in_ok-with_state.with_state.items in
    let marked : Marked (is_sought sought.State) marks ss (length ss) = c.in_ok-with_state.ensures in
    let below : i < length ss = omega (arith, c.loop-item-test.true, c.len-item-end.ensures, c.in_ok-with_state.with_state.ok.0, marked.len) in
    record {
      known = c.set_so_far-has_set.ensures ∙ ap (λ b. is_ss_word h.opening || b) so_far.known ∙ any-step ss i h c.head-head.ensures (λ h. is_ss_word h.opening);
      found = found-step E06 (is_stateless ss) c.args.faults.now.items c.loop-item.faults.items c.add_if.new.faults.items i c.is_stateless.result so_far.found
          (c.is_stateless.ensures ∙ stateless_here ss i h c.head-head.ensures below marks c.index.result.now marked c.index.ensures) (c.in_ok-add_if.ensures);
      within = omega (arith, below);
    }
