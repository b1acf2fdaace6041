use Rattle.std.proofs.Common.{◌≡◌, ℕ, ◌-◌, List, ◌++◌, length, take, drop, map, get_or, sym, ap, ap₂, ◌∙◌, subst, arith}
use Rattle.std.proofs.lemmas.List.{length-map}
use Rattle.snl_cut.specs.Cut.{IsRecut, after_ticks, last_end}
use Rattle.snl_lex.specs.declared.piece.Class.{Class}
use Rattle.snl_lex.specs.declared.piece.Piece.{Piece}
use Rattle.snl_lex.specs.PieceList.{IsRelexed, listed_pieces, piece_ends, relexed_pieces}
use Rattle.snl_lex.specs.Pieces.{LiesIn, moved_piece, piece_end, piece_length, pieces_of}
use Rattle.snl_lex.proofs.Changes.{as_many_kinds}
use Rattle.snl_lex.proofs.Members.{Leads, leads_inside, pieces_lead}
use Rattle.snl_lex.proofs.cut.relex.Goals as goal

old_lead : (old : List ℕ) (ps : List Piece) → ps ≡ pieces_of old → Leads old 0 ps (length old)
old_lead old ps e = subst (λ (l : List Piece). Leads old 0 l (length old)) (sym e) (pieces_lead old)

pub invariant_of-ends : goal.invariant_of-ends
invariant_of-ends c = record {
  near = λ k d lt.
      let old : List ℕ = c.args.old_text.now in
      let lies : LiesIn old (get_or c.args.old.now k d) = leads_inside old 0 c.args.old.now (length old) (old_lead old c.args.old.now c.requires.old_pieces) k d lt in
      omega (arith, lies.1);
}

pub listed_pieces-requires : goal.listed_pieces-requires
listed_pieces-requires c = rw (c.deref.ensures.value, c.deref-2.ensures.value) (as_many_kinds _ _ _ _ _ _ _ _ _ c.in_ok-relexed.ensures.relexed)

pub returns : goal.returns
returns c =
    let old : List ℕ = c.args.old_text.now in
    let text : List ℕ = c.args.text.now in
    let ps : List Piece = c.args.old.now in
    let known : ps ≡ pieces_of old = c.requires.old_pieces in
    let b : ℕ = c.args.old_stop in
    let d : ℕ = c.args.new_stop in
    let front : ℕ = c.in_ok-relexed.relexed.kept_front in
    let back : ℕ = c.in_ok-relexed.relexed.kept_back in
    let ends : List ℕ = c.in_ok-relexed.relexed.made.items in
    let kinds : List Class = c.in_ok-relexed.relexed.notes.items in
    let made : List Piece = c.in_ok-made.made.items in
    let r : IsRelexed old text c.args.start b d front ends kinds back = c.in_ok-relexed.ensures.relexed in
    let from : c.end_by-from.result ≡ last_end 0 (take front (piece_ends old)) = c.end_by-from.ensures ∙ ap (λ (l : List Piece). last_end 0 (take front (map piece_end l))) known in
    let made_are : made ≡ relexed_pieces old front ends kinds =
    c.in_ok-made.ensures
    ∙ ap₂ (λ (es : List ℕ) (ks : List Class). listed_pieces c.end_by-from.result es ks) c.deref.ensures.value c.deref-2.ensures.value
    ∙ ap (λ (n : ℕ). listed_pieces n ends kinds) from in
    let ends_are : map piece_end made ≡ ends = ap (map piece_end) made_are ∙ sym r.ends in
    let count : length made ≡ length ends = sym (length-map made piece_end) ∙ ap length ends_are in
    record {
      recut = subst (λ (l : List Piece). IsRecut piece_length old (map piece_end l) text c.args.start b d front (map piece_end made) back) (sym known)
          (subst (λ (m : List ℕ). IsRecut piece_length old (piece_ends old) text c.args.start b d front m back) (sym ends_are) r.recut);
      order = omega (arith, r.order, ap length known);
      pieces = subst (λ (l : List Piece). pieces_of text ≡ (take front l ++ made) ++ map (moved_piece b d) (drop (length l - back) l)) (sym known)
          (r.pieces ∙ ap (λ (l : List Piece). (take front (pieces_of old) ++ l) ++ map (moved_piece b d) (drop (length (pieces_of old) - back) (pieces_of old))) (sym made_are));
      ticks = c.in_ok-relexed.ensures.ticks ∙ ap (after_ticks c.args.work.now) (sym count);
      counted = c.in_ok-relexed.ensures.counted;
    }
