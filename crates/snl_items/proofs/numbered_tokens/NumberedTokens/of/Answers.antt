use Rattle.std.proofs.Common.{ℕ, List, length, ap, ap₂, sym, subst, ◌∙◌, arith}
use Rattle.snl_lex.specs.declared.piece.Class.{Class}
use Rattle.snl_items.specs.Places.{AreAmong, pieces_at, token_places}
use Rattle.snl_items.proofs.Places.{among_all, tokens_at_places}
use Rattle.snl_items.proofs.numbered_tokens.NumberedTokens.of.Goals as goal

pub invariant_of-result : goal.invariant_of-result
invariant_of-result c =
    let kinds : List Class = c.as_slice-kinds.result.now in
    (omega (arith, c.as_slice.ensures.len, c.as_slice-kinds.ensures.len), subst (AreAmong (length kinds)) (sym c.with_places.ensures) (among_all kinds))

pub returns : goal.returns
returns c =
    let pieces = c.args.pieces.now in
    ap₂ (λ (ends : List ℕ) (places : List ℕ). pieces_at c.args.begin ends c.as_slice-kinds.result.now places) c.as_slice.ensures.value c.with_places.ensures
    ∙ ap (λ (kinds : List Class). pieces_at c.args.begin pieces.ends.items kinds (token_places 0 kinds)) c.as_slice-kinds.ensures.value
    ∙ tokens_at_places c.args.begin pieces.ends.items pieces.kinds.items (omega (arith, pieces.ends.ok, pieces.kinds.ok))
