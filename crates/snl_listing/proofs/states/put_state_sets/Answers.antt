use Rattle.snl_listing.specs.Listing.{set_text}
use Rattle.snl_listing.proofs.Putting.{put_broken_on}
use Rattle.snl_listing.proofs.Rows.{rows_all_read}
use Rattle.snl_listing.proofs.states.put_state_sets.Goals as goal

pub returns-in_err-put_set-clause-put : goal.returns-in_err-put_set-clause-put
returns-in_err-put_set-clause-put g c = put_broken_on g.met.S.Sink.goes_on c.from_residual.result _ _ _ _ _ _ _ (rows_all_read (set_text c.args.text.now c.args.tables.now) c.args.sets.now c.loop-set.set-index c.set-item.result c.loop-set-test.true c.set-item.is) c.from_residual.ensures.0 c.loop-set.invariant.took c.in_err-put_set.ensures.put
