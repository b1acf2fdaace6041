-- The pieces of a text that an edit puts into the empty one are those that the edit makes.
use Rattle.std.proofs.Common.{◌≡◌, ℕ, ◌-◌, List, [], ◌++◌, length, take, drop, map, refl, sym, ap, ap₂, ◌∙◌}
use Rattle.std.proofs.Math.Seq.{drop-nil, take-nil}
use Rattle.std.proofs.lemmas.List.{append-nil}
use Rattle.snl_lex.specs.declared.piece.Piece.{Piece}
use Rattle.snl_lex.specs.declared.piece_list.PieceChange.{PieceChange}
use Rattle.snl_lex.specs.Edit.{Edit, IsChange, made_pieces}
use Rattle.snl_lex.specs.PieceList.{piece_ends, piece_kinds}
use Rattle.snl_lex.specs.Pieces.{moved_piece, piece_end, pieces_of}

no_pieces : pieces_of [] ≡ []
unfolding pieces_of
no_pieces = refl

made_of_none : (old : List Piece) (f b : ℕ) (made : List Piece) (move : Piece → Piece) → old ≡ []
    → (take f old ++ made) ++ map move (drop (length old - b) old) ≡ made
made_of_none old f b made move none =
    ap (λ (ps : List Piece). (take f ps ++ made) ++ map move (drop (length ps - b) ps)) none
    ∙ ap₂ (λ (front back : List Piece). (front ++ made) ++ map move back) (take-nil f) (drop-nil (length {A = Piece} [] - b))
    ∙ append-nil made

opened : (e : Edit) (c : PieceChange) → e.old ≡ [] → IsChange e c → pieces_of e.text ≡ made_pieces c
opened e c nothing change =
    change.pieces ∙ made_of_none (pieces_of e.old) c.kept_front c.kept_back (made_pieces c) (moved_piece e.old_stop e.new_stop) (ap pieces_of nothing ∙ no_pieces)

pub opened_ends : (e : Edit) (c : PieceChange) → e.old ≡ [] → IsChange e c → c.list.ends.items ≡ piece_ends e.text
opened_ends e c nothing change = change.ends ∙ sym (ap (map piece_end) (opened e c nothing change))

pub opened_kinds : (e : Edit) (c : PieceChange) → e.old ≡ [] → IsChange e c → c.list.kinds.items ≡ piece_kinds e.text
opened_kinds e c nothing change = change.kinds ∙ sym (ap (map (λ (p : Piece). p.kind)) (opened e c nothing change))
