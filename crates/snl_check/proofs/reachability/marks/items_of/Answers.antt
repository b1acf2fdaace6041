use Rattle.std.proofs.Common.{◌≡◌, [], ◌∷◌, ◌++◌, ◌∙◌, List, Some, ap, map, slice_get, sym}
use Rattle.std.proofs.lemmas.Option.{slice_get-get_or}
use Rattle.snl_check.specs.declared.reachability.marks.SetMember.{SetMember}
use Rattle.snl_check.proofs.Beside.{mapped_more}
use Rattle.snl_check.proofs.Loops.{all_taken}
use Rattle.snl_check.proofs.reachability.marks.items_of.Goals as goal

pub loop-member-preserved : goal.loop-member-preserved
loop-member-preserved c =
    let named = c.args.named.now in
    let n = c.loop-member.member-index in
    let member = c.member-item.result in
    let here : slice_get named n ≡ Some member = slice_get-get_or named n member c.loop-member-test.true ∙ ap Some (sym c.member-item.is) in
    c.in_ok-push.ensures.items ∙ ap (λ l. l ++ member.item ∷ []) c.loop-member.invariant ∙ sym (mapped_more (λ (m : SetMember). m.item) named n member here)

pub returns : goal.returns
returns c = all_taken (λ (ms : List SetMember). map (λ (m : SetMember). m.item) ms) c.args.named.now c.loop-member.member-index c.loop-member.items.items c.loop-member-test.false c.loop-member.invariant
