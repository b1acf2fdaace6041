use Rattle.std.proofs.Common.{◌≡◌, ◌≤◌, length, map, take, sym, subst, ◌∙◌, arith}
use Rattle.std.proofs.lemmas.List.{length-map, length-take-le}
use Rattle.std.proofs.lemmas.Option.{slice_get-get_or}
use Rattle.snl_check.specs.Collected.{assigned}
use Rattle.snl_check.specs.Numbered.{Numbered}
use Rattle.snl_check.proofs.Beside.{mapped_more}
use Rattle.snl_check.proofs.Numbers.{numbered_more}
use Rattle.snl_check.proofs.rows.channel_numbers.numbers_of.Goals as goal

pub loop-number-preserved : goal.loop-number-preserved
loop-number-preserved c =
    let n = c.loop-number.number in
    let channels = c.args.channels.now in
    let within : n ≤ length channels = omega (arith, c.loop-number-test.true) in
    let count : n ≡ length (map assigned (take n channels)) = sym (length-map (take n channels) assigned ∙ length-take-le n channels within) in
    subst (Numbered c.add_channel.new.self) (sym (mapped_more assigned channels n _ (slice_get-get_or channels n _ c.loop-number-test.true)))
    (numbered_more (map assigned (take n channels)) _ c.loop-number.numbers c.add_channel.new.self n count c.loop-number.invariant c.in_ok-add_channel.ensures)
