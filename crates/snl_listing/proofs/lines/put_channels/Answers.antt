use Rattle.std.proofs.Common.{arith, subst}
use Rattle.snl_listing.specs.Listing.{channel_line}
use Rattle.snl_listing.proofs.Putting.{put_broken_on}
use Rattle.snl_listing.proofs.Rows.{numbered_all_read, numbered_more_read}
use Rattle.snl_listing.proofs.lines.put_channels.Goals as goal

pub returns-in_err-put_channel : goal.returns-in_err-put_channel
returns-in_err-put_channel g c = put_broken_on g.met.S.Sink.goes_on c.from_residual.result _ _ _ _ _ _ _ (numbered_all_read (channel_line c.args.text.now) 0 c.args.rows.now c.loop-number.number _ c.index-rows-number.result c.loop-number-test.true (omega arith) c.index-rows-number.is) c.from_residual.ensures.0 c.loop-number.invariant c.in_err-put_channel.ensures

pub loop-number-preserved : goal.loop-number-preserved
loop-number-preserved g c =
    subst (g.S.Sink.Took c.args.sink.now c.put_channel.new.sink) (numbered_more_read (channel_line c.args.text.now) 0 c.args.rows.now c.loop-number.number _ c.index-rows-number.result c.loop-number-test.true (omega arith) c.index-rows-number.is) (g.met.S.Sink.goes_on.more _ _ _ _ _ c.loop-number.invariant c.in_ok-put_channel.ensures)
