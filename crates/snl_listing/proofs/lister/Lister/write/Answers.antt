use Rattle.std.proofs.Common.{refl}
use Rattle.snl_listing.proofs.Putting.{put_broken, put_on}
use Rattle.snl_listing.proofs.Whole.{sections}
use Rattle.snl_listing.proofs.lister.Lister.write.Goals as goal

pub returns-in_err-put_program : goal.returns-in_err-put_program
returns-in_err-put_program g c =
    let r = c.from_residual.result in
    put_broken g.met.S.Sink.goes_on r _ _ _ _ _ (sections c.args.text.now c.args.tables.now _ _ _ _ refl refl refl refl) c.from_residual.ensures.0 c.in_err-put_program.ensures

pub returns-in_err-put_options : goal.returns-in_err-put_options
returns-in_err-put_options g c =
    let r = c.from_residual-in_err-put_options.result in
    put_on g.met.S.Sink.goes_on r _ _ _ _ _ _ (sections c.args.text.now c.args.tables.now _ _ _ _ c.as_slice.ensures refl refl refl) c.in_ok-put_program.ensures (put_broken g.met.S.Sink.goes_on r _ _ _ _ _ refl c.from_residual-in_err-put_options.ensures.0 c.in_err-put_options.ensures)

pub returns-in_err-put_flags : goal.returns-in_err-put_flags
returns-in_err-put_flags g c =
    let r = c.from_residual-in_err-put_flags.result in
    put_on g.met.S.Sink.goes_on r _ _ _ _ _ _ (sections c.args.text.now c.args.tables.now _ _ _ _ c.as_slice.ensures c.as_slice-2.ensures refl refl) c.in_ok-put_program.ensures (put_on g.met.S.Sink.goes_on r _ _ _ _ _ _ refl c.in_ok-put_options.ensures (put_broken g.met.S.Sink.goes_on r _ _ _ _ _ refl c.from_residual-in_err-put_flags.ensures.0 c.in_err-put_flags.ensures))

pub returns-in_err-put_channels : goal.returns-in_err-put_channels
returns-in_err-put_channels g c =
    let r = c.from_residual-in_err-put_channels.result in
    put_on g.met.S.Sink.goes_on r _ _ _ _ _ _ (sections c.args.text.now c.args.tables.now _ _ _ _ c.as_slice.ensures c.as_slice-2.ensures c.as_slice-3.ensures refl) c.in_ok-put_program.ensures (put_on g.met.S.Sink.goes_on r _ _ _ _ _ _ refl c.in_ok-put_options.ensures (put_on g.met.S.Sink.goes_on r _ _ _ _ _ _ refl c.in_ok-put_flags.ensures (put_broken g.met.S.Sink.goes_on r _ _ _ _ _ refl c.from_residual-in_err-put_channels.ensures.0 c.in_err-put_channels.ensures)))

pub returns : goal.returns
returns g c =
    let r = c.put_state_sets.result in
    put_on g.met.S.Sink.goes_on r _ _ _ _ _ _ (sections c.args.text.now c.args.tables.now _ _ _ _ c.as_slice.ensures c.as_slice-2.ensures c.as_slice-3.ensures c.as_slice-4.ensures) c.in_ok-put_program.ensures (put_on g.met.S.Sink.goes_on r _ _ _ _ _ _ refl c.in_ok-put_options.ensures (put_on g.met.S.Sink.goes_on r _ _ _ _ _ _ refl c.in_ok-put_flags.ensures (put_on g.met.S.Sink.goes_on r _ _ _ _ _ _ refl c.in_ok-put_channels.ensures (c.put_state_sets.ensures.put))))
