use Rattle.std.proofs.Common.{arith, subst}
use Rattle.snl_listing.specs.Listing.{when_line}
use Rattle.snl_listing.proofs.Putting.{put_broken_on}
use Rattle.snl_listing.proofs.Rows.{numbered_all, numbered_more}
use Rattle.snl_listing.proofs.states.put_transitions.Goals as goal

pub returns-in_err-put_when : goal.returns-in_err-put_when
returns-in_err-put_when g c = put_broken_on g.met.S.Sink.goes_on c.from_residual.result _ _ _ _ _ _ _ (numbered_all (when_line c.args.text.now) 0 c.args.transitions.now c.loop-number.number _ _ c.loop-number-test.true (omega arith)) c.from_residual.ensures.0 c.loop-number.invariant c.in_err-put_when.ensures

pub loop-number-preserved : goal.loop-number-preserved
loop-number-preserved g c =
    subst (g.S.Sink.Took c.args.sink.now c.put_when.new.sink) (numbered_more (when_line c.args.text.now) 0 c.args.transitions.now c.loop-number.number _ _ c.loop-number-test.true (omega arith)) (g.met.S.Sink.goes_on.more _ _ _ _ _ c.loop-number.invariant c.in_ok-put_when.ensures)
