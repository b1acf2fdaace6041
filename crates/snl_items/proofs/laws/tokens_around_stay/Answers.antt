use Rattle.std.proofs.Common.{◌≡◌, ℕ, ◌-◌, length, sym, subst, ap, ◌∙◌, arith}
use Rattle.std.proofs.lemmas.List.{length-map}
use Rattle.snl_cut.specs.Cut.{Rises, ends_of}
use Rattle.snl_lex.specs.PieceList.{piece_ends, piece_kinds}
use Rattle.snl_lex.specs.Pieces.{piece_length, pieces_of}
use Rattle.snl_items.specs.OwnTokens.{tokens_before}
use Rattle.snl_items.proofs.OwnParts.{first_tokens}
use Rattle.snl_items.proofs.ShiftedTokens.{left_around}
use Rattle.snl_items.proofs.TokenPlaces.{tokens_upto}
use Rattle.snl_items.proofs.laws.tokens_around_stay.Goals as goal

pub returns : goal.returns
returns c = λ e pieces is_edit old_short short is tokens change s at.
    let ps = pieces_of e.old in
    let front : ℕ = pieces.kept_front in
    let back : ℕ = pieces.kept_back in
    let ends : piece_ends e.old ≡ ends_of piece_length e.old = c.one_cut.ensures.only e.old (piece_ends e.old) (c.text_in_pieces.ensures.cut e.old) in
    let rises : Rises 0 (piece_ends e.old) = subst (Rises 0) (sym ends) (c.ends_in_order.ensures.rise e.old) in
    let counted = c.tokens_counted.ensures e pieces is tokens change in
    left_around e pieces is rises (c.pieces_as_listed.ensures e.old) (c.text_in_pieces.ensures.inside e.old)
    s at (omega (arith, is_edit.old_order)) (omega (arith, is_edit.new_inside, old_short, short)) tokens change
    (sym counted.start ∙ first_tokens ps front)
    (sym counted.stop
    ∙ ap (λ (n : ℕ). tokens_before (piece_kinds e.old) (n - back)) (length-map ps (λ p. p.kind))
    ∙ first_tokens ps (length ps - back)
    ∙ tokens_upto ps front (length ps - back) (omega (arith, is.order)))
