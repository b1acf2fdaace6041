use Rattle.std.proofs.Common.{◌≡◌, ℕ, List, ◌++◌, map, take, ap, ap₂, sym, subst, ◌∙◌}
use Rattle.snl_cut.specs.Cut.{IsRecut}
use Rattle.snl_lex.specs.Edit.{edit_of}
use Rattle.snl_lex.specs.PieceList.{last_pieces, listed_pieces, piece_ends}
use Rattle.snl_lex.specs.Pieces.{moved_piece, piece_end, piece_length, pieces_of}
use Rattle.snl_lex.specs.declared.piece.Class.{Class}
use Rattle.snl_lex.specs.declared.piece.Piece.{Piece}
use Rattle.snl_kept.proofs.opening.opened_changes.Goals as goal

pub returns-clause-changes : goal.returns-clause-changes
returns-clause-changes c =
    let edit = edit_of c.args.edit.now in
    let changed = c.in_ok-changes.ensures.changes in
    let old = c.in_ok-changes.changes.pieces in
    let ends = c.shrink_to_fit.ensures.items in
    let kinds = c.shrink_to_fit-2.ensures.items in
    let made = ap₂ (λ (es : List ℕ) (ks : List Class). listed_pieces old.made_from es ks) ends kinds in
    record {
      pieces = record {
        order = changed.pieces.order;
        recut = subst (λ (ps : List Piece). IsRecut piece_length edit.old (piece_ends edit.old) edit.text edit.start edit.old_stop edit.new_stop old.kept_front (map piece_end ps) old.kept_back) (sym made) changed.pieces.recut;
        pieces = subst (λ (ps : List Piece). pieces_of edit.text ≡ (take old.kept_front (pieces_of edit.old) ++ ps) ++ map (moved_piece edit.old_stop edit.new_stop) (last_pieces edit.old old.kept_back)) (sym made) changed.pieces.pieces;
        from = changed.pieces.from;
        ends = ends ∙ changed.pieces.ends ∙ ap (map piece_end) (sym made);
        kinds = kinds ∙ changed.pieces.kinds ∙ ap (map (λ (p : Piece). p.kind)) (sym made);
      };
      tokens = changed.tokens;
      shifted = changed.shifted;
      items = changed.items;
    }
