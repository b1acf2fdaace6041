use Rattle.std.proofs.Common.{◌≡◌, ℕ, suc, ◌+◌, ◌<◌, Bool, true, false, cond, List, [], ◌∷◌, ◌++◌, filter, length, map, take, get_or, vec_len, rules, sym, subst, ap, ◌∙◌, arith}
use Rattle.std.proofs.lemmas.List.{append-nil, map-append, take_all}
use Rattle.snl_cut.specs.Cut.{last_end}
use Rattle.snl_cut.specs.CutLaws.{last_taken}
use Rattle.snl_grammar.specs.declared.marks.Mark.{Mark}
use Rattle.snl_lex.specs.declared.piece.Class.{Class}
use Rattle.snl_lex.specs.declared.piece.Class.TheVariants.{White}
use Rattle.snl_lex.specs.declared.piece.Piece.{Piece}
use Rattle.snl_lex.specs.PieceList.{is_token_class, listed_pieces}
use Rattle.snl_lex.specs.Pieces.{LiesIn, is_token}
use Rattle.snl_items.specs.Items.{mark_in}
use Rattle.snl_items.specs.Places.{piece_to, piece_with}
use Rattle.snl_items.proofs.Listed.{counted_less, counted_other, counted_token, listed_at, listed_length, told_more}
use Rattle.snl_items.proofs.tokens.with_marks.Goals as goal
use Rattle.snl_items.proofs.tokens.with_marks.Goals.{then-is_token, else-is_token}

-- src/tokens.rt:106:33
pub mark-requires : goal.mark-requires
mark-requires c =
    let begin : ℕ = c.args.begin in
    let ends : List ℕ = c.args.ends.now in
    let kinds : List Class = c.args.kinds.now in
    let n : ℕ = c.loop-number.number in
    let p : Piece = c.piece_between.result in
    let piece_is : p ≡ piece_with begin ends kinds n = c.piece_between.ensures ∙ ap (λ (s : ℕ). piece_to (get_or kinds n White) s (get_or ends n 0)) c.loop-number.invariant.start in
    let there : n < length (listed_pieces begin ends kinds) = omega (arith, listed_length begin ends kinds c.requires.same, c.loop-number-test.true) in
    let lies : LiesIn c.args.text.now p = subst (LiesIn c.args.text.now) (listed_at begin ends kinds n p c.requires.same c.loop-number-test.true ∙ sym piece_is) (c.requires.inside n p there) in
    omega (arith, lies.1)

-- src/tokens.rt:106:13
pub push_reserved-requires : goal.push_reserved-requires
push_reserved-requires c =
    omega (arith, c.loop-number.invariant.few, c.loop-number.invariant.capacity, c.requires.room, counted_less c.args.kinds.now c.loop-number.number White c.loop-number-test.true (sym c.is_token.ensures ∙ c.if-is_token.true))

-- src/tokens.rt:103:5
pub loop-number-preserved : goal.loop-number-preserved
loop-number-preserved c =
    let text : List ℕ = c.args.text.now in
    let begin : ℕ = c.args.begin in
    let ends : List ℕ = c.args.ends.now in
    let kinds : List Class = c.args.kinds.now in
    let n : ℕ = c.loop-number.number in
    let ps : List Piece = listed_pieces begin ends kinds in
    let p : Piece = piece_with begin ends kinds n in
    let so_far : List Piece = filter is_token (take n ps) in
    let next : (t : Bool) → t ≡ is_token_class (get_or kinds n White) → map (mark_in text) so_far ++ map (mark_in text) (cond t (p ∷ []) []) ≡ map (mark_in text) (filter is_token (take (n + 1) ps)) =
    λ t is. sym (map-append (mark_in text) so_far (cond t (p ∷ []) [])) ∙ ap (map (mark_in text)) (ap (λ (b : Bool). so_far ++ cond b (p ∷ []) []) is ∙ sym (told_more begin ends kinds n c.requires.same c.loop-number-test.true)) in
    let one : suc n ≡ n + 1 = omega arith in
    let ended : get_or ends n 0 ≡ last_end begin (take (n + 1) ends) =
    sym (last_taken begin ends n (omega (arith, c.requires.same, c.loop-number-test.true))) ∙ ap (λ (m : ℕ). last_end begin (take m ends)) one in
    record {
      marks =
          elim c.if-is_token.branch [
            | then-is_token w ↦
                ap (λ v. v.items) w.marks-is ∙ w.push_reserved.ensures.items ∙ ap (λ (l : List Mark). l ++ w.mark.result ∷ []) c.loop-number.invariant.marks
                ∙ ap (λ (m : Mark). map (mark_in text) so_far ++ m ∷ [])
                (w.mark.ensures ∙ ap (mark_in text) (w.piece_between.ensures ∙ ap (λ (s : ℕ). piece_to (get_or kinds n White) s (get_or ends n 0)) c.loop-number.invariant.start))
                ∙ next true (sym w.if-is_token.true ∙ c.is_token.ensures)
            | else-is_token w ↦
                ap (λ v. v.items) w.marks-is ∙ c.loop-number.invariant.marks ∙ sym (append-nil (map (mark_in text) so_far))
                ∙ next false (sym w.if-is_token.false ∙ c.is_token.ensures)
          ];
      start =
          elim c.if-is_token.branch [
            | then-is_token w ↦ w.start-is ∙ ended
            | else-is_token w ↦ w.start-is ∙ ended
          ];
      few =
          elim c.if-is_token.branch [
            | then-is_token w ↦ omega (arith, ap vec_len w.marks-is, w.push_reserved.ensures.len, c.loop-number.invariant.few, counted_token kinds n White c.loop-number-test.true (sym c.is_token.ensures ∙ w.if-is_token.true))
            | else-is_token w ↦ omega (arith, ap vec_len w.marks-is, c.loop-number.invariant.few, counted_other kinds n White c.loop-number-test.true (sym c.is_token.ensures ∙ w.if-is_token.false))
          ];
      capacity = search rules;
    }

-- src/tokens.rt:89:1
pub returns : goal.returns
returns c =
    let ps : List Piece = listed_pieces c.args.begin c.args.ends.now c.args.kinds.now in
    c.loop-number.invariant.marks
    ∙ ap (λ (l : List Piece). map (mark_in c.args.text.now) (filter is_token l))
    (take_all c.loop-number.number ps (omega (arith, listed_length c.args.begin c.args.ends.now c.args.kinds.now c.requires.same, c.loop-number-test.false)))
