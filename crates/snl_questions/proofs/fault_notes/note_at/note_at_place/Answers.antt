use Rattle.std.proofs.Common.{◌≡◌, IfOk, Option, option_map, ap, subst, sym, ◌∙◌}
use Rattle.snl_questions.specs.FaultNotes.{FaultTold, fault_told, is_blamed}
use Rattle.snl_questions.proofs.Faults.{found, lie, lies, told_is}
use Rattle.snl_questions.proofs.fault_notes.note_at.note_at_place.Goals as goal

pub note_on-requires-clause-within : goal.note_on-requires-clause-within
note_on-requires-clause-within c =
    let text = c.args.items.now.text.now in
    lie text c.args.place c.in-Some.tokens.now (sym c.in-Some.ensures)
    (c.text_in_pieces.ensures.inside text)

pub note_on-requires-clause-token : goal.note_on-requires-clause-token
note_on-requires-clause-token c =
    let text = c.args.items.now.text.now in
    let own = c.in-Some.tokens.now in
    let token = c.in-Some-get.token.now in
    lies text c.args.place own (sym c.in-Some.ensures) token
    (found own c.args.place.token token c.in-Some-get.ensures.lookup.3)
    (c.text_in_pieces.ensures.inside text)

pub returns : goal.returns
returns c =
    let text = c.args.items.now.text.now in
    let p = c.args.place in
    let own = c.in-Some.tokens.now in
    let blamed = ap (λ o. is_blamed o p.token) (sym c.blamed_in.ensures)
    ∙ sym c.is_blamed.ensures ∙ c.if-not-is_blamed.false in
    let token = c.in-Some-get.token.now in
    let told = told_is text p own (sym c.in-Some.ensures) token
    (found own p.token token c.in-Some-get.ensures.lookup.3) blamed in
    subst (λ (v : Option FaultTold). IfOk c.note_on.result
    (λ note. option_map (λ x. fault_told x) note ≡ v)) (sym told) c.note_on.ensures
