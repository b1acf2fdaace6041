use Rattle.snl_listing.specs.Escapes.{escaped_byte}
use Rattle.snl_listing.proofs.Putting.{put_broken_on}
use Rattle.snl_listing.proofs.Rows.{rows_all}
use Rattle.snl_listing.proofs.escapes.put_escaped.Goals as goal

pub returns-in_err-put_byte : goal.returns-in_err-put_byte
returns-in_err-put_byte g c = put_broken_on g.met.S.Sink.goes_on c.from_residual.result _ _ _ _ _ _ _ (rows_all escaped_byte c.args.bytes.now c.loop-byte.byte-index 0 c.loop-byte-test.true) c.from_residual.ensures.0 c.loop-byte.invariant c.in_err-put_byte.ensures
