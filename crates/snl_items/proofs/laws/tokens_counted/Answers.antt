use Rattle.std.proofs.Common.{◌≡◌, ℕ, ◌+◌, ◌-◌, List, filter, length, map, take, refl, sym, subst, ap, ◌∙◌, arith}
use Rattle.std.proofs.lemmas.List.{length-map}
use Rattle.snl_cut.specs.Cut.{IsRecut, Rises, ends_of}
use Rattle.snl_lex.specs.Edit.{made_pieces}
use Rattle.snl_lex.specs.PieceList.{piece_ends, piece_kinds, pieces_between}
use Rattle.snl_lex.specs.Pieces.{is_token, piece_end, piece_length, pieces_of}
use Rattle.snl_items.specs.declared.tokens.TokenEdit.{TokenEdit}
use Rattle.snl_items.specs.OwnTokens.{tokens_before}
use Rattle.snl_items.proofs.OwnParts.{first_tokens}
use Rattle.snl_items.proofs.TokenPlaces.{edit_is, tokens_upto}
use Rattle.snl_items.proofs.laws.tokens_counted.Goals as goal

pub returns : goal.returns
returns c = λ e pieces is tokens change.
    let ps = pieces_of e.old in
    let front : ℕ = pieces.kept_front in
    let back : ℕ = pieces.kept_back in
    let made : List ℕ = map piece_end (made_pieces pieces) in
    let old_ends : piece_ends e.old ≡ ends_of piece_length e.old = c.one_cut.ensures.only e.old (piece_ends e.old) (c.text_in_pieces.ensures.cut e.old) in
    let new_ends : piece_ends e.text ≡ ends_of piece_length e.text = c.one_cut.ensures.only e.text (piece_ends e.text) (c.text_in_pieces.ensures.cut e.text) in
    let old_rises : Rises 0 (piece_ends e.old) = subst (Rises 0) (sym old_ends) (c.ends_in_order.ensures.rise e.old) in
    let new_rises : Rises 0 (piece_ends e.text) = subst (Rises 0) (sym new_ends) (c.ends_in_order.ensures.rise e.text) in
    let recut : IsRecut piece_length e.old (ends_of piece_length e.old) e.text e.start e.old_stop e.new_stop front made back =
    subst (λ (es : List ℕ). IsRecut piece_length e.old es e.text e.start e.old_stop e.new_stop front made back) old_ends is.recut in
    let meets = c.meets_where_sought.ensures e.old e.text e.start e.old_stop e.new_stop front made back recut in
    let first : ℕ = length (filter is_token (take front ps)) in
    let told : TokenEdit = record {
      start = first;
      old_stop = first + length (filter is_token (pieces_between ps front (length ps - back)));
      new_stop = first + length (filter is_token (made_pieces pieces));
    } in
    let same_edit : tokens.edit ≡ told =
    change.edit_is
    ∙ sym (edit_is e pieces is old_ends old_rises new_rises (c.pieces_as_listed.ensures e.old) (c.pieces_as_listed.ensures e.text) recut meets told refl refl refl) in
    record {
      start = first_tokens ps front ∙ sym (ap (λ (x : TokenEdit). x.start) same_edit);
      stop = ap (λ (n : ℕ). tokens_before (piece_kinds e.old) (n - back)) (length-map ps (λ p. p.kind))
          ∙ first_tokens ps (length ps - back)
          ∙ tokens_upto ps front (length ps - back) (omega (arith, is.order))
          ∙ sym (ap (λ (x : TokenEdit). x.old_stop) same_edit);
    }
