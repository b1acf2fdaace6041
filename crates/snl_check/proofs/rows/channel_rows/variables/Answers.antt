use Rattle.std.proofs.Common.{◌≡◌, ◌≤◌, ◌<◌, ◌++◌, ◌∷◌, [], length, map, take, get_or, None, sym, ap, ◌∙◌, arith}
use Rattle.std.proofs.Math.ListN.{set}
use Rattle.std.proofs.lemmas.List.{length-map, length-take-le}
use Rattle.std.proofs.lemmas.Option.{slice_get-get_or}
use Rattle.snl_check.specs.declared.rows.channels.AssignedChannel.{AssignedChannel}
use Rattle.snl_check.specs.Channels.{channels_of, variables_before}
use Rattle.snl_check.specs.Collected.{assigned}
use Rattle.snl_check.proofs.Beside.{mapped_more}
use Rattle.snl_check.specs.ChannelLaws.{list_at, lists_count}
use Rattle.snl_check.proofs.Numbers.{lists_more, lists_same}
use Rattle.snl_check.proofs.rows.channel_rows.variables.Goals as goal
use Rattle.snl_check.proofs.rows.channel_rows.variables.Goals.{then-channel-len+in_ok-add_number, else-channel-len}

pub loop-number-preserved : goal.loop-number-preserved
loop-number-preserved c =
    let n = c.loop-number.number in
    let total = c.args.count in
    let channels = c.args.channels.now in
    let none : AssignedChannel = record { item = 0; token = 0; variable = 0; element = None; strings = record { ref_ptr = (0, 0); now = [] } } in
    let channel = get_or channels n none in
    let variable = channel.variable in
    let cs = map assigned (take n channels) in
    let within : n ≤ length channels = omega (arith, c.loop-number-test.true) in
    let count : length cs ≡ n = length-map (take n channels) assigned ∙ length-take-le n channels within in
    let old = c.loop-number.lists.items in
    let lists : length old ≡ total = ap length c.loop-number.invariant ∙ lists_count cs total in
    let more = mapped_more assigned channels n channel (slice_get-get_or channels n none c.loop-number-test.true) in
    elim c.if-channel-len.branch [
      | then-channel-len+in_ok-add_number w ↦
          let there : variable < total = omega (arith, w.if-channel-len.true, c.len.ensures, c.loop-number.lists.ok.0, lists) in
          ap (λ v. v.items) w.lists-is
          ∙ ap (set old variable) (w.in_ok-add_number.ensures ∙ ap (λ l. l ++ n ∷ []) (w.index_mut.ensures.value ∙ ap (λ l. get_or l variable w.index_mut.result.now) c.loop-number.invariant ∙ list_at cs total variable w.index_mut.result.now there))
          ∙ ap (λ l. set l variable (channels_of cs variable ++ n ∷ [])) c.loop-number.invariant
          ∙ ap (λ k. set (variables_before cs total) variable (channels_of cs variable ++ k ∷ [])) (sym count)
          ∙ lists_more cs (assigned channel) total there
          ∙ ap (λ l. variables_before l total) (sym more)
      | else-channel-len w ↦
          let out : total ≤ variable = omega (arith, w.if-channel-len.false, c.len.ensures, c.loop-number.lists.ok.0, lists) in
          ap (λ v. v.items) w.lists-is ∙ c.loop-number.invariant ∙ sym (lists_same cs (assigned channel) total out) ∙ ap (λ l. variables_before l total) (sym more)
    ]
