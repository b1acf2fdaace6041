use Rattle.std.proofs.Common.{◌≡◌, ◌+◌, ◌++◌, drop, sym, ap, append_assoc, ◌∙◌, refl}
use Rattle.std.specs.List.{cons_option, filter_map}
use Rattle.std.proofs.lemmas.Option.{slice_get-get_or}
use Rattle.snl_facts.specs.Lists.{at_end}
use Rattle.snl_check.specs.Numbered.{wake_by}
use Rattle.snl_check.proofs.Beside.{kept_more}
use Rattle.snl_check.specs.ItemTokens.{own_tokens}
use Rattle.snl_check.proofs.rows.wake_ups.wakes_by.Goals as goal
use Rattle.snl_check.proofs.rows.wake_ups.wakes_by.Goals.{in-Some+in_ok-push, in_default}

pub loop-used-preserved : goal.loop-used-preserved
loop-used-preserved c =
    let source = c.args.source.now in
    let meant = wake_by source.text.now (own_tokens source) c.args.links.now.outlines c.args.numbers.now c.args.item in
    let uses = c.args.uses.now in
    let n = c.loop-used.used-index in
    let so_far = c.loop-used.wake.items in
    let rest = filter_map meant (drop (n + 1) uses) in
    let more : filter_map meant (drop n uses) ≡ cons_option c.wake_up.result rest =
    kept_more meant uses n _ (slice_get-get_or uses n _ c.loop-used-test.true) ∙ ap (λ o. cons_option o rest) (sym c.wake_up.ensures) in
    elim c.match-wake_up.branch [
      | in-Some+in_ok-push w ↦
          ap (λ v. v.items ++ rest) w.wake-is ∙ ap (λ l. l ++ rest) w.in_ok-push.ensures.items ∙ append_assoc so_far _ rest
          ∙ ap (λ l. so_far ++ l) (sym (more ∙ ap (λ o. cons_option o rest) w.in-Some.is)) ∙ c.loop-used.invariant
      | in_default w ↦ ap (λ v. v.items ++ rest) w.wake-is ∙ ap (λ l. so_far ++ l) (sym (more ∙ ap (λ o. cons_option o rest) w.in_default.is)) ∙ c.loop-used.invariant
    ]

pub returns : goal.returns
returns c =
    at_end (filter_map (wake_by c.args.source.now.text.now (own_tokens c.args.source.now) c.args.links.now.outlines c.args.numbers.now c.args.item)) refl c.args.uses.now c.loop-used.used-index c.loop-used.wake.items _ c.loop-used-test.false c.loop-used.invariant
