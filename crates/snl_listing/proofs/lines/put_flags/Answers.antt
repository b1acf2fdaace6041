use Rattle.std.proofs.Common.{arith, subst}
use Rattle.snl_listing.specs.Listing.{flag_line}
use Rattle.snl_listing.proofs.Putting.{put_broken_on}
use Rattle.snl_listing.proofs.Rows.{numbered_all, numbered_more}
use Rattle.snl_listing.proofs.lines.put_flags.Goals as goal

pub returns-in_err-put_flag : goal.returns-in_err-put_flag
returns-in_err-put_flag g c = put_broken_on g.met.S.Sink.goes_on c.from_residual.result _ _ _ _ _ _ _ (numbered_all (flag_line c.args.text.now) 1 c.args.rows.now c.loop-place.place _ _ c.loop-place-test.true (omega arith)) c.from_residual.ensures.0 c.loop-place.invariant c.in_err-put_flag.ensures

pub loop-place-preserved : goal.loop-place-preserved
loop-place-preserved g c =
    subst (g.S.Sink.Took c.args.sink.now c.put_flag.new.sink) (numbered_more (flag_line c.args.text.now) 1 c.args.rows.now c.loop-place.place _ _ c.loop-place-test.true (omega arith)) (g.met.S.Sink.goes_on.more _ _ _ _ _ c.loop-place.invariant c.in_ok-put_flag.ensures)
