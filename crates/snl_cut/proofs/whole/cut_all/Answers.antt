use Rattle.std.proofs.Common.{◌≡◌, ℕ, suc, length, arith, refl, ap, ◌∙◌, subst}
use Rattle.snl_cut.specs.Cut.{Walks, ticked}
use Rattle.snl_cut.proofs.OneCut.{cut_is}
use Rattle.snl_cut.proofs.Steps.{walks_push, length_push}
use Rattle.snl_cut.proofs.whole.cut_all.Goals as goal

pub loop-at-preserved : goal.loop-at-preserved
loop-at-preserved g c =
    record {
      walked = rw c.in_ok-push.ensures.items (walks_push g.F.Front.first_of c.args.units.now 0 c.loop-at.ends.items c.loop-at.at c.next_end-at.result c.loop-at.invariant.walked c.loop-at-test.true c.next_end-at.ensures.end);
      inside = c.next_end-at.ensures.inside;
      ticked = rw c.in_ok-push.ensures.items (rw (length_push c.loop-at.ends.items c.next_end-at.result) (c.next_end-at.ensures.ticks ∙ ap ticked c.loop-at.invariant.ticked));
    }

pub loop-at-init : goal.loop-at-init
loop-at-init g c = record { walked = rw c.new-ends.ensures.items refl; inside = omega arith; ticked = rw c.new-ends.ensures.items refl }

pub returns-clause-only : goal.returns-clause-only
returns-clause-only g c =
    let end : c.loop-at.at ≡ length c.args.units.now = omega (arith, c.loop-at-test.false, c.loop-at.invariant.inside) in
    cut_is g.F.Front.first_of g.met.F.Front.within c.args.units.now c.loop-at.ends.items
    (subst (λ (n : ℕ). Walks g.F.Front.first_of c.args.units.now 0 c.loop-at.ends.items n) end c.loop-at.invariant.walked)

pub returns-in_err-push-clause-counted : goal.returns-in_err-push-clause-counted
returns-in_err-push-clause-counted g c =
    record { calls = suc (length c.loop-at.ends.items); ticks = c.next_end-at.ensures.ticks ∙ ap ticked c.loop-at.invariant.ticked }
