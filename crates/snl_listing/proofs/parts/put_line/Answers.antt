use Rattle.snl_listing.specs.Parts.{part_text}
use Rattle.snl_listing.proofs.Putting.{put_broken_on}
use Rattle.snl_listing.proofs.Rows.{rows_all}
use Rattle.snl_listing.proofs.parts.put_line.Goals as goal

pub returns-in_err-put_part : goal.returns-in_err-put_part
returns-in_err-put_part g c = put_broken_on g.met.S.Sink.goes_on c.from_residual.result _ _ _ _ _ _ _ (rows_all part_text c.args.parts.now c.loop-part.part-index _ c.loop-part-test.true) c.from_residual.ensures.0 c.loop-part.invariant c.in_err-put_part.ensures
