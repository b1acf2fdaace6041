use Rattle.snl_listing.specs.Listing.{goto_line}
use Rattle.snl_listing.proofs.Putting.{put_broken_on}
use Rattle.snl_listing.proofs.Rows.{rows_all}
use Rattle.snl_listing.proofs.states.put_gotos.Goals as goal

pub returns-in_err-put_goto : goal.returns-in_err-put_goto
returns-in_err-put_goto g c = put_broken_on g.met.S.Sink.goes_on c.from_residual.result _ _ _ _ _ _ _ (rows_all (goto_line c.args.text.now) c.args.targets.now c.loop-target.target-index _ c.loop-target-test.true) c.from_residual.ensures.0 c.loop-target.invariant c.in_err-put_goto.ensures
