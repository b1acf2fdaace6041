-- The edit of the tokens that an edit of a text is, by how many of them there are in each part.
use Rattle.std.proofs.Common.{◌≡◌, ℕ, ◌+◌, ◌-◌, ◌≤◌, List, ◌++◌, length, map, filter, count_by, nat_lt, take, drop, refl, sym, ap, ap₂, ◌∙◌, arith, length-append}
use Rattle.std.proofs.lemmas.List.{drop-take, length-map, map-append, take-map, take_at, take-append-drop, take-take}
use Rattle.std.proofs.lemmas.List.Elements.{filter-append}
use Rattle.snl_cut.specs.Cut.{IsRecut, Rises, ends_of, last_end, meet_of}
use Rattle.snl_lex.specs.declared.piece.Piece.{Piece}
use Rattle.snl_lex.specs.PieceList.{last_pieces, listed_pieces, piece_ends, piece_kinds, pieces_between}
use Rattle.snl_lex.specs.declared.piece_list.PieceChange.{PieceChange}
use Rattle.snl_lex.specs.Edit.{Edit, IsChange, made_pieces}
use Rattle.snl_lex.specs.Pieces.{is_token, moved_piece, piece_end, piece_length, pieces_of}
use Rattle.snl_items.specs.declared.tokens.TokenEdit.{TokenEdit}
use Rattle.snl_items.specs.Fresh.{beginning_before, ending_before, token_edit_of}
use Rattle.snl_items.proofs.Counts.{beginning, ending}

-- Pieces up to one number, and from there up to another.
pub tokens_upto : (ps : List Piece) (a b : ℕ) → a ≤ b → length (filter is_token (take b ps)) ≡ length (filter is_token (take a ps)) + length (filter is_token (pieces_between ps a b))
tokens_upto ps a b le =
    let there : a + (b - a) ≡ b = omega arith in
    let parts : take b ps ≡ take a ps ++ pieces_between ps a b =
    sym (take-append-drop a (take b ps)) ∙ ap₂ (λ (x y : List Piece). x ++ y) (take-take a b ps le) (ap (λ (n : ℕ). drop a (take n ps)) (sym there) ∙ drop-take a (b - a) ps) in
    ap (λ (l : List Piece). length (filter is_token l)) parts
    ∙ ap length (filter-append is_token (take a ps) (pieces_between ps a b)) ∙ length-append (filter is_token (take a ps)) (filter is_token (pieces_between ps a b))

-- The tokens of a text that begin before a boundary of its pieces.
at_boundary : (text : List ℕ) (place n : ℕ) → Rises 0 (piece_ends text) → listed_pieces 0 (piece_ends text) (piece_kinds text) ≡ pieces_of text → n ≤ length (pieces_of text)
    → place ≡ last_end 0 (take n (piece_ends text)) → beginning_before text place ≡ length (filter is_token (take n (pieces_of text)))
at_boundary text place n rises listed le e =
    ap (λ (l : List Piece). count_by (λ p. nat_lt p.start place) (filter is_token l)) (sym listed)
    ∙ beginning place 0 (piece_ends text) (piece_kinds text) n rises (omega (arith, length-map (pieces_of text) piece_end)) e
    ∙ ap (λ (l : List Piece). length (filter is_token (take n l))) listed

same_edit : (a b c d e f : ℕ) → a ≡ d → b ≡ e → c ≡ f → let one : TokenEdit = record { start = a; old_stop = b; new_stop = c } in let other : TokenEdit = record { start = d; old_stop = e; new_stop = f } in one ≡ other
same_edit a b c d e f h i j = cc

module _ (e : Edit) (pieces : PieceChange) (is : IsChange e pieces) where
  -- what the laws of pieces say of both texts, and where the cuts meet
  module _ (ends : piece_ends e.old ≡ ends_of piece_length e.old) (old_rises : Rises 0 (piece_ends e.old)) (new_rises : Rises 0 (piece_ends e.text))
      (old_listed : listed_pieces 0 (piece_ends e.old) (piece_kinds e.old) ≡ pieces_of e.old) (new_listed : listed_pieces 0 (piece_ends e.text) (piece_kinds e.text) ≡ pieces_of e.text)
      (recut : IsRecut piece_length e.old (ends_of piece_length e.old) e.text e.start e.old_stop e.new_stop pieces.kept_front (map piece_end (made_pieces pieces)) pieces.kept_back) (meets : meet_of piece_length e.old e.text e.old_stop e.new_stop ≡ recut.meet) where
    start_is : ending_before e.old e.start ≡ length (filter is_token (take pieces.kept_front (pieces_of e.old)))
    start_is = ending e.start 0 (pieces_of e.old) old_rises ∙ ap (λ (n : ℕ). length (filter is_token (take n (pieces_of e.old)))) (sym is.recut.kept)

    old_place : (meet_of piece_length e.old e.text e.old_stop e.new_stop - e.new_stop) + e.old_stop ≡ last_end 0 (take (length (pieces_of e.old) - pieces.kept_back) (piece_ends e.old))
    old_place =
        ap (λ (m : ℕ). (m - e.new_stop) + e.old_stop) meets ∙ sym recut.from
        ∙ ap (λ (es : List ℕ). last_end 0 (take (length es - pieces.kept_back) es)) (sym ends)
        ∙ ap (λ (n : ℕ). last_end 0 (take (n - pieces.kept_back) (piece_ends e.old))) (length-map (pieces_of e.old) piece_end)

    old_stop_is : beginning_before e.old ((meet_of piece_length e.old e.text e.old_stop e.new_stop - e.new_stop) + e.old_stop) ≡ length (filter is_token (take pieces.kept_front (pieces_of e.old))) + length (filter is_token (pieces_between (pieces_of e.old) pieces.kept_front (length (pieces_of e.old) - pieces.kept_back)))
    old_stop_is =
        at_boundary e.old ((meet_of piece_length e.old e.text e.old_stop e.new_stop - e.new_stop) + e.old_stop) (length (pieces_of e.old) - pieces.kept_back) old_rises old_listed (omega arith) old_place
        ∙ tokens_upto (pieces_of e.old) pieces.kept_front (length (pieces_of e.old) - pieces.kept_back) (omega (arith, is.order))

    abbrev new_front : List Piece
    new_front = take pieces.kept_front (pieces_of e.old) ++ made_pieces pieces

    taken : take (length new_front) (pieces_of e.text) ≡ new_front
    taken = ap (take (length new_front)) is.pieces ∙ take_at new_front (map (moved_piece e.old_stop e.new_stop) (last_pieces e.old pieces.kept_back)) (length new_front) refl

    front_within : length new_front ≤ length (pieces_of e.text)
    front_within = omega (arith, ap length is.pieces, length-append new_front (map (moved_piece e.old_stop e.new_stop) (last_pieces e.old pieces.kept_back)))

    new_place : meet_of piece_length e.old e.text e.old_stop e.new_stop ≡ last_end 0 (take (length new_front) (piece_ends e.text))
    new_place =
        meets ∙ sym recut.led
        ∙ ap (λ (es : List ℕ). last_end 0 (take pieces.kept_front es ++ map piece_end (made_pieces pieces))) (sym ends)
        ∙ ap (λ (es : List ℕ). last_end 0 (es ++ map piece_end (made_pieces pieces))) (take-map piece_end pieces.kept_front (pieces_of e.old))
        ∙ ap (last_end 0) (sym (map-append piece_end (take pieces.kept_front (pieces_of e.old)) (made_pieces pieces)) ∙ ap (map piece_end) (sym taken) ∙ sym (take-map piece_end (length new_front) (pieces_of e.text)))

    new_stop_is : beginning_before e.text (meet_of piece_length e.old e.text e.old_stop e.new_stop) ≡ length (filter is_token (take pieces.kept_front (pieces_of e.old))) + length (filter is_token (made_pieces pieces))
    new_stop_is =
        at_boundary e.text (meet_of piece_length e.old e.text e.old_stop e.new_stop) (length new_front) new_rises new_listed front_within new_place
        ∙ ap (λ (l : List Piece). length (filter is_token l)) taken
        ∙ ap length (filter-append is_token (take pieces.kept_front (pieces_of e.old)) (made_pieces pieces)) ∙ length-append (filter is_token (take pieces.kept_front (pieces_of e.old))) (filter is_token (made_pieces pieces))

    pub edit_is : (edit : TokenEdit) → edit.start ≡ length (filter is_token (take pieces.kept_front (pieces_of e.old)))
        → edit.old_stop ≡ length (filter is_token (take pieces.kept_front (pieces_of e.old))) + length (filter is_token (pieces_between (pieces_of e.old) pieces.kept_front (length (pieces_of e.old) - pieces.kept_back)))
        → edit.new_stop ≡ length (filter is_token (take pieces.kept_front (pieces_of e.old))) + length (filter is_token (made_pieces pieces))
        → edit ≡ token_edit_of e
    unfolding token_edit_of
    edit_is edit h i j = same_edit edit.start edit.old_stop edit.new_stop _ _ _ (h ∙ sym start_is) (i ∙ sym old_stop_is) (j ∙ sym new_stop_is)
