use Rattle.std.proofs.Common.{refl}
use Rattle.snl_say.proofs.ParentSteps.{begun_all, begun_next}
use Rattle.snl_say.proofs.symbols.put_forest.Goals as goal

pub loop-symbol-preserved : goal.loop-symbol-preserved
loop-symbol-preserved c =
    begun_next c.args.all.now c.loop-symbol.symbol-index _ _ c.loop-symbol.out.items _ _ _ _
    c.loop-symbol.parents.items _ _ _ c.in_ok-push.ensures.items c.loop-symbol-test.true refl
    c.loop-symbol.invariant c.in_ok-later.ensures.text c.in_ok-later.ensures.left
    c.in_ok-later.ensures.later c.in_ok-extend_from_slice.ensures.items c.begin_text.ensures

pub returns : goal.returns
returns c =
    begun_all c.args.all.now c.loop-symbol.symbol-index _ _ _ _ _ c.loop-symbol-test.false
    c.loop-symbol.invariant c.in_ok-put_ended.ensures.text c.in_ok-extend_from_slice-2.ensures.items
