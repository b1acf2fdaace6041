-- What a recut makes of the pieces, and what it keeps of them.
use Rattle.std.proofs.Common.{◌≡◌, ℕ, ◌-◌, List, ◌++◌, length, take, drop, map, refl, sym, ap, ◌∙◌, subst, arith}
use Rattle.std.proofs.lemmas.List.{length-map}
use Rattle.snl_cut.specs.Cut.{IsEdit, IsRecut, Walks, last_end, notes_along}
use Rattle.snl_lex.specs.declared.piece.Class.{Class}
use Rattle.snl_lex.specs.declared.piece.Piece.{Piece}
use Rattle.snl_lex.specs.PieceList.{IsRelexed, listed_pieces, piece_ends}
use Rattle.snl_lex.specs.Pieces.{moved_piece, piece_class, piece_end, piece_length, pieces_along, pieces_of}
use Rattle.snl_lex.proofs.Listed.{noted_kinds, noted_pieces}
use Rattle.snl_lex.proofs.Members.{leads_walk, pieces_lead, along_ends}
use Rattle.snl_lex.proofs.Meeting.{made_walk, recut_order, recut_pieces}

pub old_walk : (old : List ℕ) → Walks piece_length old 0 (map piece_end (pieces_of old)) (length old)
old_walk old = leads_walk old 0 (pieces_of old) (length old) (pieces_lead old)

relexed : (old text : List ℕ) (start b d front : ℕ) (made : List ℕ) (back : ℕ) → IsEdit old text start b d
    → IsRecut piece_length old (piece_ends old) text start b d front made back
    → IsRelexed old text start b d front made (notes_along piece_class text (last_end 0 (take front (piece_ends old))) made) back
relexed old text start b d front made back edit r =
    let ps : List Piece = pieces_of old in
    let from : ℕ = last_end 0 (take front (piece_ends old)) in
    let walk : Walks piece_length text from made (last_end from made) = made_walk old text (piece_ends old) start b d front made back r in
    let are : listed_pieces from made (notes_along piece_class text from made) ≡ pieces_along text from made = noted_pieces text from made (last_end from made) walk in
    let order = recut_order old text (piece_ends old) start b d front made back edit (old_walk old) r in
    record {
      order = omega (arith, order, length-map ps piece_end);
      recut = r;
      ends = sym (ap (map piece_end) are ∙ along_ends text from made (last_end from made) walk);
      kinds = noted_kinds text from made ∙ sym (ap (λ (l : List Piece). map (λ p. p.kind) l) are);
      pieces = recut_pieces old text ps start b d front made back refl edit r
          ∙ ap (λ (l : List Piece). (take front ps ++ l) ++ map (moved_piece b d) (drop (length ps - back) ps)) (sym are);
    }

-- The same where the old ends and the notes are told otherwise.
pub relexed_as : (old text ends : List ℕ) (start b d front : ℕ) (made : List ℕ) (notes : List Class) (back : ℕ) → IsEdit old text start b d
    → ends ≡ piece_ends old → IsRecut piece_length old ends text start b d front made back → notes ≡ notes_along piece_class text (last_end 0 (take front ends)) made
    → IsRelexed old text start b d front made notes back
relexed_as old text ends start b d front made notes back edit are r noted =
    subst (λ (l : List Class). IsRelexed old text start b d front made l back)
    (sym (noted ∙ ap (λ (l : List ℕ). notes_along piece_class text (last_end 0 (take front l)) made) are))
    (relexed old text start b d front made back edit (subst (λ (l : List ℕ). IsRecut piece_length old l text start b d front made back) are r))
