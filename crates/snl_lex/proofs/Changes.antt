-- What an edit makes of the lists of the pieces.
use Rattle.std.proofs.Common.{◌≡◌, ℕ, zero, suc, ◌+◌, ◌-◌, ◌<◌, ◌≤◌, List, [], ◌∷◌, ◌++◌, length, take, drop, map, get_or, refl, sym, ap, ap₂, ◌∙◌, subst, arith, append_assoc, length-append, length-drop}
use Rattle.std.specs.Prelude.{slice_index}
use Rattle.std.proofs.lemmas.List.{drop-map, get_or_append_left, get_or-append-add, length-map, map-append, take-append-drop, take-map}
use Rattle.snl_cut.specs.Cut.{IsEdit, IsRecut, Walks, joined, last_end, moved}
use Rattle.snl_lex.specs.declared.piece.Class.{Class}
use Rattle.snl_lex.specs.declared.piece.Piece.{Piece}
use Rattle.snl_lex.specs.declared.piece_list.PieceChange.{PieceChange}
use Rattle.snl_lex.specs.Edit.{Edit, IsChange, made_pieces}
use Rattle.snl_lex.specs.PieceList.{IsRelexed, last_pieces, listed_pieces, piece_ends, piece_kinds, relexed_pieces}
use Rattle.snl_lex.specs.Pieces.{LiesIn, moved_piece, piece_end, piece_length, pieces_along, pieces_of}
use Rattle.snl_lex.proofs.Members.{along_ends, leads_inside, leads_pieces, leads_walk, pieces_lead, walk_back, walk_le, walk_leads}

-- ---- pieces in a part of the text

pub part_lies : (text : List ℕ) (front made back : List Piece) → pieces_of text ≡ (front ++ made) ++ back → (k : ℕ) (d : Piece) → k < length made → LiesIn text (get_or made k d)
part_lies text front made back e k d lt =
    let inside : length front + k < length (front ++ made) = omega (arith, length-append front made) in
    let there : get_or (pieces_of text) (length front + k) d ≡ get_or made k d =
    ap (λ (l : List Piece). get_or l (length front + k) d) e ∙ get_or_append_left (front ++ made) back d (length front + k) inside ∙ get_or-append-add front made k d in
    subst (LiesIn text) there (leads_inside text 0 (pieces_of text) (length text) (pieces_lead text) (length front + k) d (omega (arith, inside, ap length e, length-append (front ++ made) back)))

walk_above : (text : List ℕ) (from : ℕ) (es : List ℕ) (to : ℕ) → Walks piece_length text from es to → (i : ℕ) → i < length es → from ≤ slice_index es i
walk_above text from [] to w i lt = absurd (omega arith)
walk_above text from (e ∷ es) to w zero lt = omega (arith, w.1)
walk_above text from (e ∷ es) to w (suc i) lt = omega (arith, w.1, walk_above text e es to w.2 i (omega arith))

walk_under : (text : List ℕ) (from : ℕ) (es : List ℕ) (to : ℕ) → Walks piece_length text from es to → (i : ℕ) → i < length es → slice_index es i ≤ to
walk_under text from [] to w i lt = absurd (omega arith)
walk_under text from (e ∷ es) to w zero lt = walk_le text e es to w.2
walk_under text from (e ∷ es) to w (suc i) lt = walk_under text e es to w.2 i (omega arith)

pub ends_walk : (text : List ℕ) → Walks piece_length text 0 (piece_ends text) (length text)
ends_walk text = leads_walk text 0 (pieces_of text) (length text) (pieces_lead text)

-- The ends from one on.
pub rest_walk : (text : List ℕ) (k : ℕ) → Walks piece_length text (last_end 0 (take k (piece_ends text))) (drop k (piece_ends text)) (length text)
rest_walk text k =
    let ends : List ℕ = piece_ends text in
    walk_back text 0 (take k ends) (drop k ends) (length text) (subst (λ (l : List ℕ). Walks piece_length text 0 l (length text)) (sym (take-append-drop k ends)) (ends_walk text))

-- A cut's ends are those of the pieces.
pub cut_ends : (text ends : List ℕ) → Walks piece_length text 0 ends (length text) → ends ≡ piece_ends text
cut_ends text ends w =
    sym (along_ends text 0 ends (length text) w) ∙ ap (map piece_end) (leads_pieces text (pieces_along text 0 ends) (walk_leads text 0 ends (length text) w))

kinds_moved : (b c : ℕ) (ps : List Piece) → map (λ p. p.kind) (map (moved_piece b c) ps) ≡ map (λ p. p.kind) ps
kinds_moved b c [] = refl
kinds_moved b c (p ∷ ps) = ap (λ (l : List Class). p.kind ∷ l) (kinds_moved b c ps)

-- Texts of an edit are as much longer or shorter as the bytes in it.
pub edit_lengths : (old text : List ℕ) (start b c : ℕ) → IsEdit old text start b c → length old + c ≡ length text + b
edit_lengths old text start b c e =
    let same : length old - b ≡ length text - c = sym (length-drop b old) ∙ ap length e.after ∙ length-drop c text in
    omega (arith, same, e.old_inside, e.new_inside)

-- ---- what is kept and made of the pieces

-- What is kept at the front ends in the text.
pub front_ends : (text : List ℕ) (k : ℕ) → last_end 0 (take k (piece_ends text)) ≤ length text
front_ends text k = walk_le text (last_end 0 (take k (piece_ends text))) (drop k (piece_ends text)) (length text) (rest_walk text k)

module _ (old text : List ℕ) (start b c front : ℕ) (ends : List ℕ) (kinds : List Class) (back : ℕ) (is : IsRelexed old text start b c front ends kinds back) where
  pub as_many_kinds : length ends ≡ length kinds
  as_many_kinds =
      let ps : List Piece = relexed_pieces old front ends kinds in
      ap length is.ends ∙ length-map ps piece_end ∙ sym (ap length is.kinds ∙ length-map ps (λ p. p.kind))

-- What is made of the pieces, as lists, is what an edit makes of them.
pub relexed_change : (e : Edit) (change : PieceChange)
    → IsRelexed e.old e.text e.start e.old_stop e.new_stop change.kept_front change.list.ends.items change.list.kinds.items change.kept_back
    → change.made_from ≡ last_end 0 (take change.kept_front (piece_ends e.old)) → change.kept_from ≡ last_end 0 (take (length (piece_ends e.old) - change.kept_back) (piece_ends e.old)) → IsChange e change
relexed_change e change is from kept_from =
    let front : ℕ = change.kept_front in
    let ends : List ℕ = change.list.ends.items in
    let kinds : List Class = change.list.kinds.items in
    let same : relexed_pieces e.old front ends kinds ≡ made_pieces change = ap (λ (n : ℕ). listed_pieces n ends kinds) (sym from) in
    record {
      order = is.order;
      recut = subst (λ (m : List ℕ). IsRecut piece_length e.old (piece_ends e.old) e.text e.start e.old_stop e.new_stop front m change.kept_back) (is.ends ∙ ap (map piece_end) same) is.recut;
      pieces = is.pieces ∙ ap (λ (l : List Piece). (take front (pieces_of e.old) ++ l) ++ map (moved_piece e.old_stop e.new_stop) (last_pieces e.old change.kept_back)) same;
      from = kept_from;
      ends = is.ends ∙ ap (map piece_end) same;
      kinds = is.kinds ∙ ap (map (λ p. p.kind)) same;
    }

-- ---- what a change says

module _ (e : Edit) (change : PieceChange) (is : IsChange e change) where
  pub as_many : length change.list.ends.items ≡ length change.list.kinds.items
  as_many = ap length is.ends ∙ length-map (made_pieces change) piece_end ∙ sym (ap length is.kinds ∙ length-map (made_pieces change) (λ p. p.kind))

  pub made_lies : (k : ℕ) (d : Piece) → k < length (made_pieces change) → LiesIn e.text (get_or (made_pieces change) k d)
  made_lies = part_lies e.text (take change.kept_front (pieces_of e.old)) (made_pieces change) (map (moved_piece e.old_stop e.new_stop) (last_pieces e.old change.kept_back)) is.pieces

  -- The ends of the pieces that are kept at the back.
  pub back_above : (i : ℕ) → i < length (drop (length (piece_ends e.old) - change.kept_back) (piece_ends e.old)) → e.old_stop ≤ slice_index (drop (length (piece_ends e.old) - change.kept_back) (piece_ends e.old)) i
  back_above i lt =
      let k : ℕ = length (piece_ends e.old) - change.kept_back in
      omega (arith, is.recut.from, walk_above e.old (last_end 0 (take k (piece_ends e.old))) (drop k (piece_ends e.old)) (length e.old) (rest_walk e.old k) i lt)

  pub back_under : (i : ℕ) → i < length (drop (length (piece_ends e.old) - change.kept_back) (piece_ends e.old)) → slice_index (drop (length (piece_ends e.old) - change.kept_back) (piece_ends e.old)) i ≤ length e.old
  back_under i lt =
      let k : ℕ = length (piece_ends e.old) - change.kept_back in
      walk_under e.old (last_end 0 (take k (piece_ends e.old))) (drop k (piece_ends e.old)) (length e.old) (rest_walk e.old k) i lt

  pub new_ends : take change.kept_front (piece_ends e.old) ++ (change.list.ends.items ++ moved e.old_stop e.new_stop (drop (length (piece_ends e.old) - change.kept_back) (piece_ends e.old))) ≡ piece_ends e.text
  new_ends =
      let ends : List ℕ = piece_ends e.old in
      let front : ℕ = change.kept_front in
      let tail : List ℕ = moved e.old_stop e.new_stop (drop (length ends - change.kept_back) ends) in
      let made : List ℕ = map piece_end (made_pieces change) in
      ap (λ (l : List ℕ). take front ends ++ (l ++ tail)) is.ends
      ∙ sym (append_assoc (take front ends) made tail)
      ∙ cut_ends e.text (joined ends e.old_stop e.new_stop front made change.kept_back) is.recut.whole

  pub new_kinds : take change.kept_front (piece_kinds e.old) ++ (change.list.kinds.items ++ drop (length (piece_ends e.old) - change.kept_back) (piece_kinds e.old)) ≡ piece_kinds e.text
  new_kinds =
      let kind : Piece → Class = λ (p : Piece). p.kind in
      let ps : List Piece = pieces_of e.old in
      let made : List Piece = made_pieces change in
      let front : ℕ = change.kept_front in
      let many : length (piece_ends e.old) ≡ length ps = length-map ps piece_end in
      let tail : List Piece = last_pieces e.old change.kept_back in
      let after : map kind (map (moved_piece e.old_stop e.new_stop) tail) ≡ drop (length (piece_ends e.old) - change.kept_back) (piece_kinds e.old) =
      kinds_moved e.old_stop e.new_stop tail ∙ sym (drop-map kind (length ps - change.kept_back) ps) ∙ ap (λ (n : ℕ). drop (n - change.kept_back) (piece_kinds e.old)) (sym many) in
      sym (ap (map kind) is.pieces
      ∙ map-append kind (take front ps ++ made) (map (moved_piece e.old_stop e.new_stop) tail)
      ∙ ap₂ (λ (x y : List Class). x ++ y) (map-append kind (take front ps) made ∙ ap₂ (λ (x y : List Class). x ++ y) (sym (take-map kind front ps)) (sym is.kinds)) after
      ∙ append_assoc (take front (piece_kinds e.old)) change.list.kinds.items (drop (length (piece_ends e.old) - change.kept_back) (piece_kinds e.old)))
