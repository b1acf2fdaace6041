use Rattle.std.proofs.Common.{◌≡◌, ℕ, ◌+◌, ◌-◌, List, ◌++◌, length, map, take, drop, sym, ap, ap₂, ◌∙◌, arith}
use Rattle.std.proofs.lemmas.List.{append_cancel_left, append_cancel_right, length-map}
use Rattle.snl_lex.specs.declared.piece.Piece.{Piece}
use Rattle.snl_lex.specs.PieceList.{piece_kinds}
use Rattle.snl_lex.specs.Pieces.{moved_piece, pieces_of, tokens_of}
use Rattle.snl_items.specs.Changes.{made_in}
use Rattle.snl_items.specs.OwnTokens.{tokens_before}
use Rattle.snl_items.proofs.OwnParts.{first_tokens}
use Rattle.snl_items.proofs.Parts.{first_part, last_part}
use Rattle.snl_items.proofs.TokenParts.{at_back, at_front, fresh, new_tokens, old_tokens, replaced}
use Rattle.snl_items.proofs.TokenPlaces.{tokens_upto}
use Rattle.snl_items.proofs.laws.made_are_tokens.Goals as goal

pub returns : goal.returns
returns c = λ e pieces is tokens change.
    let ps : List Piece = pieces_of e.old in
    let front : ℕ = pieces.kept_front in
    let back : ℕ = pieces.kept_back in
    let counted = c.tokens_counted.ensures e pieces is tokens change in
    let starts : tokens.edit.start ≡ length (at_front e pieces is) = sym counted.start ∙ first_tokens ps front in
    let stops : tokens.edit.old_stop ≡ length (at_front e pieces is) + length (replaced e pieces is) =
    sym counted.stop
    ∙ ap (λ (n : ℕ). tokens_before (piece_kinds e.old) (n - back)) (length-map ps (λ p. p.kind))
    ∙ first_tokens ps (length ps - back)
    ∙ tokens_upto ps front (length ps - back) (omega (arith, is.order)) in
    let first : take tokens.edit.start (tokens_of e.old) ≡ at_front e pieces is =
    ap (take tokens.edit.start) (old_tokens e pieces is) ∙ first_part (at_front e pieces is) (replaced e pieces is) (at_back e pieces is) tokens.edit.start (sym starts) in
    let last : drop tokens.edit.old_stop (tokens_of e.old) ≡ at_back e pieces is =
    ap (drop tokens.edit.old_stop) (old_tokens e pieces is) ∙ last_part (at_front e pieces is) (replaced e pieces is) (at_back e pieces is) tokens.edit.old_stop (sym stops) in
    let rest : List Piece = map (moved_piece e.old_stop e.new_stop) (at_back e pieces is) in
    let made : List Piece = made_in e tokens.edit in
    let both : at_front e pieces is ++ (fresh e pieces is ++ rest) ≡ at_front e pieces is ++ (made ++ rest) =
    sym (new_tokens e pieces is) ∙ change.tokens
    ∙ ap₂ (λ (x y : List Piece). x ++ (made ++ map (moved_piece e.old_stop e.new_stop) y)) first last in
    append_cancel_right (fresh e pieces is) made rest (append_cancel_left (at_front e pieces is) (fresh e pieces is ++ rest) (made ++ rest) both)
