use Rattle.std.proofs.Common.{◌<◌, length, take, arith, sym, ap, ◌∙◌}
use Rattle.std.proofs.lemmas.List.{get_or_read}
use Rattle.snl_cut.specs.Cut.{last_end}
use Rattle.snl_questions.proofs.Numbered.{a_token, no_token, past_all}
use Rattle.snl_questions.proofs.tokens.at_offset.token_numbered.Goals as goal

pub returns-then-number-len : goal.returns-then-number-len
returns-then-number-len c =
    past_all 0 _ _ c.args.number (omega (arith, c.args.pieces.now.ends.ok, c.len.ensures))

pub returns-then-not-is_token : goal.returns-then-not-is_token
returns-then-not-is_token c =
    let ends = c.args.pieces.now.ends in
    let kinds = c.args.pieces.now.kinds in
    no_token 0 ends.items kinds.items c.args.number c.index-kind.result.now
    (omega (arith, ends.ok, c.len.ensures)) (omega (arith, ends.ok, kinds.ok, c.requires))
    c.index-kind.ensures (sym c.is_token.ensures ∙ c.if-not-is_token.true)

pub returns : goal.returns
returns c =
    let ends = c.args.pieces.now.ends in
    let kinds = c.args.pieces.now.kinds in
    let within : c.args.number < length ends.items = omega (arith, ends.ok, c.len.ensures) in
    let begin = c.begin_of-start.ensures ∙ ap (λ es. last_end 0 (take c.args.number es)) c.deref.ensures.value in
    let end = get_or_read ends.items c.args.number _ within c.index.ensures 0 in
    rw (c.saturating_sub.ensures, begin)
    (a_token 0 ends.items kinds.items c.args.number c.index-kind.result.now c.index.result.now
    within (omega (arith, ends.ok, kinds.ok, c.requires)) c.index-kind.ensures end
    (sym c.is_token.ensures ∙ c.if-not-is_token.false))
