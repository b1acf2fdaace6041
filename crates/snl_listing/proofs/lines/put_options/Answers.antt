use Rattle.snl_listing.specs.Listing.{option_line}
use Rattle.snl_listing.proofs.Putting.{put_broken_on}
use Rattle.snl_listing.proofs.Rows.{rows_all}
use Rattle.snl_listing.proofs.lines.put_options.Goals as goal

pub returns-in_err-put_option : goal.returns-in_err-put_option
returns-in_err-put_option g c = put_broken_on g.met.S.Sink.goes_on c.from_residual.result _ _ _ _ _ _ _ (rows_all (option_line c.args.indent.now) c.args.rows.now c.loop-row.row-index _ c.loop-row-test.true) c.from_residual.ensures.0 c.loop-row.invariant c.in_err-put_option.ensures
