use Rattle.std.proofs.Common.{get_or, subst}
use Rattle.std.proofs.lemmas.Option.{slice_get-get_or}
use Rattle.snl_check.specs.Numbered.{Adds, has_key}
use Rattle.snl_check.proofs.WakesByTable.{adds_none_of, adds_one_more}
use Rattle.snl_check.proofs.rows.channel_numbers.ChannelNumbers.add_rows.Goals as goal

pub loop-number-init : goal.loop-number-init
loop-number-init c = adds_none_of c.args.self.now c.args.variable c.args.rows.now

pub loop-number-preserved : goal.loop-number-preserved
loop-number-preserved c =
    let numbers = c.args.numbers.now in
    let i = c.loop-number.number-index in
    adds_one_more c.args.self.now c.loop-number.self c.add_channel.new.self c.args.variable c.args.rows.now numbers i _ (slice_get-get_or numbers i 0 c.loop-number-test.true)
    c.loop-number.invariant (subst (λ e. Adds c.loop-number.self c.add_channel.new.self (has_key c.args.variable e) (get_or numbers i 0)) c.element_at.ensures c.in_ok-add_channel.ensures)
