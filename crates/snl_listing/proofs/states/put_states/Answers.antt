use Rattle.snl_listing.specs.Listing.{state_text}
use Rattle.snl_listing.proofs.Putting.{put_broken_on}
use Rattle.snl_listing.proofs.Rows.{rows_all_read}
use Rattle.snl_listing.proofs.states.put_states.Goals as goal

pub returns-in_err-put_state-clause-put : goal.returns-in_err-put_state-clause-put
returns-in_err-put_state-clause-put g c = put_broken_on g.met.S.Sink.goes_on c.from_residual.result _ _ _ _ _ _ _ (rows_all_read (state_text c.args.text.now c.args.tables.now) c.args.states.now c.loop-state.state-index c.state-item.result c.loop-state-test.true c.state-item.is) c.from_residual.ensures.0 c.loop-state.invariant.took c.in_err-put_state.ensures.put
