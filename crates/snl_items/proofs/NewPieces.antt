-- The lists of the pieces after an edit.
use Rattle.std.proofs.Common.{◌≡◌, ℕ, ◌+◌, ◌-◌, ◌^◌, ◌<◌, ◌≤◌, Bool, List, [], ◌∷◌, ◌++◌, length, take, drop, map, count_by, get_or, refl, sym, ap, ap₂, ◌∙◌, append_assoc, arith}
use Rattle.std.proofs.lemmas.List.{drop-map, length-map, map-append, take-map}
use Rattle.snl_cut.specs.Cut.{IsCut, IsEdit, Rises, ends_of, joined, moved}
use Rattle.snl_cut.specs.CutLaws.{same_length}
use Rattle.snl_facts.specs.Counts.{count_append}
use Rattle.snl_lex.specs.declared.piece.Class.{Class}
use Rattle.snl_lex.specs.declared.piece.Piece.{Piece}
use Rattle.snl_lex.specs.declared.piece_list.PieceChange.{PieceChange}
use Rattle.snl_lex.specs.Edit.{Edit, IsChange, made_pieces}
use Rattle.snl_lex.specs.PieceList.{last_pieces, piece_ends, piece_kinds}
use Rattle.snl_lex.specs.Pieces.{moved_piece, piece_end, piece_length, pieces_of}
use Rattle.snl_items.proofs.EndPlaces.{dropped_within, ends_above}
use Rattle.snl_items.proofs.Parts.{in_parts}

kinds_moved : (b c : ℕ) (ps : List Piece) → map (λ p. p.kind) (map (moved_piece b c) ps) ≡ map (λ p. p.kind) ps
kinds_moved b c [] = refl
kinds_moved b c (p ∷ ps) = ap (λ (l : List Class). p.kind ∷ l) (kinds_moved b c ps)

-- How many of three parts of a list pass a test.
pub count_three : {X : Type 0} (p : X → Bool) (xs ys zs : List X) → count_by p ((xs ++ ys) ++ zs) ≡ (count_by p xs + count_by p ys) + count_by p zs
count_three p xs ys zs = count_append p (xs ++ ys) zs ∙ ap (λ (n : ℕ). n + count_by p zs) (count_append p xs ys)

-- And where the list is cut at two numbers.
pub count_parted : {X : Type 0} (p : X → Bool) (xs : List X) (a b : ℕ) → a ≤ b → count_by p xs ≡ (count_by p (take a xs) + count_by p (take (b - a) (drop a xs))) + count_by p (drop b xs)
count_parted p xs a b le =
    ap (count_by p) (in_parts xs a b le ∙ sym (append_assoc (take a xs) (take (b - a) (drop a xs)) (drop b xs))) ∙ count_three p (take a xs) (take (b - a) (drop a xs)) (drop b xs)

module _ (e : Edit) (change : PieceChange) (is : IsChange e change) where
  -- The classes of what is kept at the front, of what is made and of what is kept at the back.
  pub new_kinds : (take change.kept_front (piece_kinds e.old) ++ change.list.kinds.items) ++ drop (length (piece_kinds e.old) - change.kept_back) (piece_kinds e.old) ≡ piece_kinds e.text
  new_kinds =
      let kind : Piece → Class = λ (p : Piece). p.kind in
      let ps : List Piece = pieces_of e.old in
      let made : List Piece = made_pieces change in
      let front : ℕ = change.kept_front in
      let tail : List Piece = last_pieces e.old change.kept_back in
      let after : map kind (map (moved_piece e.old_stop e.new_stop) tail) ≡ drop (length (piece_kinds e.old) - change.kept_back) (piece_kinds e.old) =
      kinds_moved e.old_stop e.new_stop tail ∙ sym (drop-map kind (length ps - change.kept_back) ps) ∙ ap (λ (n : ℕ). drop (n - change.kept_back) (piece_kinds e.old)) (sym (length-map ps kind)) in
      sym (ap (map kind) is.pieces
      ∙ map-append kind (take front ps ++ made) (map (moved_piece e.old_stop e.new_stop) tail)
      ∙ ap₂ (λ (x y : List Class). x ++ y) (map-append kind (take front ps) made ∙ ap₂ (λ (x y : List Class). x ++ y) (sym (take-map kind front ps)) (sym is.kinds)) after)

  -- The ends of the pieces that are kept at the back, in the old text, and moved.
  abbrev back_ends : List ℕ
  back_ends = drop (length (piece_ends e.old) - change.kept_back) (piece_ends e.old)

  pub back_above : Rises 0 (piece_ends e.old) → (i : ℕ) → i < length back_ends → e.old_stop ≤ get_or back_ends i 0
  back_above rises i lt = omega (arith, is.recut.from, ends_above 0 (piece_ends e.old) (length (piece_ends e.old) - change.kept_back) i rises lt)

  pub back_under : IsEdit e.old e.text e.start e.old_stop e.new_stop → length e.text < 2 ^ 32 → ((j : ℕ) → j < length (piece_ends e.old) → get_or (piece_ends e.old) j 0 ≤ length e.old)
      → (i : ℕ) → i < length back_ends → (get_or back_ends i 0 - e.old_stop) + e.new_stop < 2 ^ 32
  back_under edit short within i lt =
      omega (arith, dropped_within (piece_ends e.old) (length e.old) (length (piece_ends e.old) - change.kept_back) i within lt, same_length e.old e.text e.start e.old_stop e.new_stop edit, edit.old_inside, edit.new_inside)

  -- Where the pieces end that are kept at the front, made, and kept at the back. A text has one cut.
  pub new_ends : ((ends : List ℕ) → IsCut piece_length e.text ends → ends ≡ ends_of piece_length e.text) → IsCut piece_length e.text (piece_ends e.text)
      → (take change.kept_front (piece_ends e.old) ++ change.list.ends.items) ++ moved e.old_stop e.new_stop back_ends ≡ piece_ends e.text
  new_ends only cut =
      ap (λ (l : List ℕ). (take change.kept_front (piece_ends e.old) ++ l) ++ moved e.old_stop e.new_stop back_ends) is.ends
      ∙ only (joined (piece_ends e.old) e.old_stop e.new_stop change.kept_front (map piece_end (made_pieces change)) change.kept_back) is.recut.whole
      ∙ sym (only (piece_ends e.text) cut)
