use Rattle.std.proofs.Common.{◌<◌, ◌||◌, ◌&&◌, is_none, length, not, ap, ◌∙◌, arith}
use Rattle.snl_codes.specs.declared.code.Code.TheVariants.{E04}
use Rattle.snl_scope.specs.declared.items.heads.Sought.TheVariants as sought
use Rattle.snl_scope.specs.Order.{is_unmatched}
use Rattle.snl_scope.specs.Places.{begins_set, ends_set}
use Rattle.snl_scope.specs.NameTables.{Marked, is_sought}
use Rattle.snl_scope.proofs.Marks.{unmatched_here}
use Rattle.snl_scope.proofs.OrderSteps.{found-step}
use Rattle.snl_scope.proofs.items.order.add_unmatched.Goals as goal

pub loop-item-preserved : goal.loop-item-preserved
loop-item-preserved c =
    let ss = c.args.scopes.now in
    let i = c.loop-item.item in
    let h = c.head-role.result in
    let marks = c.in_ok-closed.closed.items in
    let marked : Marked (is_sought sought.End) marks ss (length ss) = c.in_ok-closed.ensures in
    let below : i < length ss = omega (arith, c.loop-item-test.true, c.len-item-end.ensures, c.in_ok-closed.closed.ok.0, marked.len) in
    record {
      found = found-step E04 (is_unmatched ss) c.args.faults.now.items c.loop-item.faults.items c.add_if.new.faults.items i c.is_unmatched-is_unmatched.result c.loop-item.invariant.found
          (c.is_unmatched-is_unmatched.ensures ∙ ap (λ p. (begins_set h.role && not c.index.result.now) || (ends_set h.role && is_none p)) c.enclosing_set.ensures
          ∙ unmatched_here ss i h c.head-role.ensures below marks c.index.result.now marked c.index.ensures) (c.in_ok-add_if.ensures);
      within = omega (arith, below);
    }
