use Rattle.std.proofs.Common.{◌≡◌, List, ℕ, ◌+◌, ◌++◌, ◌∷◌, [], Some, map, slice_get, take, sym, ap, ◌∙◌, arith}
use Rattle.std.specs.List.{enumerate_from}
use Rattle.std.proofs.lemmas.Option.{slice_get-get_or}
use Rattle.snl_tables.specs.declared.rows.StateMark.{StateMark}
use Rattle.snl_check.specs.declared.reachability.marks.SetMember.{SetMember}
use Rattle.snl_check.specs.States.{mark_by_member}
use Rattle.snl_check.proofs.Beside.{enumerated_more}
use Rattle.snl_check.proofs.Loops.{all_taken}
use Rattle.snl_check.proofs.reachability.marks.marks_of.Goals as goal

pub loop-number-preserved : goal.loop-number-preserved
loop-number-preserved c =
    let named = c.args.named.now in
    let n = c.loop-number.number in
    let member = c.index-named-number.result in
    let mark : ℕ × SetMember → StateMark = λ p. mark_by_member c.args.links.now.outlines c.args.has_faulty c.args.reached.now p.0 p.1 in
    let so_far = map mark (enumerate_from 0 (take n named)) in
    let zero : n ≡ 0 + n = omega arith in
    let here : slice_get named n ≡ Some member = slice_get-get_or named n member c.loop-number-test.true ∙ ap Some (sym c.index-named-number.is) in
    c.in_ok-push.ensures.items ∙ ap (λ l. l ++ c.mark_of.result ∷ []) c.loop-number.invariant
    ∙ ap (λ m. so_far ++ m ∷ []) (c.mark_of.ensures ∙ ap (λ k. mark (k, member)) zero)
    ∙ sym (enumerated_more mark 0 named n member here)

pub returns : goal.returns
returns c =
    let mark : ℕ × SetMember → StateMark = λ p. mark_by_member c.args.links.now.outlines c.args.has_faulty c.args.reached.now p.0 p.1 in
    all_taken (λ (ms : List SetMember). map mark (enumerate_from 0 ms)) c.args.named.now c.loop-number.number c.loop-number.marks.items c.loop-number-test.false c.loop-number.invariant
