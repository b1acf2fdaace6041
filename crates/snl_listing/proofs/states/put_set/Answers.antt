use Rattle.std.proofs.Common.{refl, ap, List, ◌++◌}
use Rattle.std.specs.List.{flat_map}
use Rattle.snl_tables.specs.declared.rows.StateRow.{StateRow}
use Rattle.snl_listing.specs.Listing.{set_line, state_text}
use Rattle.snl_listing.proofs.Putting.{put_broken, put_on}
use Rattle.snl_listing.proofs.states.put_set.Goals as goal

pub returns-in_err-put_set_line-clause-put : goal.returns-in_err-put_set_line-clause-put
returns-in_err-put_set_line-clause-put g c = put_broken g.met.S.Sink.goes_on c.from_residual.result _ _ _ _ _ refl c.from_residual.ensures.0 c.in_err-put_set_line.ensures

pub returns-clause-put : goal.returns-clause-put
returns-clause-put g c =
    put_on g.met.S.Sink.goes_on c.put_states.result _ _ _ _ _ _ (ap (λ (l : List StateRow). set_line c.args.text.now c.args.set.now ++ flat_map (state_text c.args.text.now c.args.tables.now) l) c.as_slice.ensures) c.in_ok-put_set_line.ensures c.put_states.ensures.put
