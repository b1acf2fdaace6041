use Rattle.std.proofs.Common.{◌≡◌, ℕ, ◌+◌, ◌-◌, List, filter, length, map, count_by, drop, take, refl, sym, subst, ap, ◌∙◌, arith}
use Rattle.std.proofs.lemmas.List.{drop-map, length-map, take-map}
use Rattle.snl_cut.specs.Cut.{IsRecut, Rises, ends_of}
use Rattle.snl_lex.specs.declared.piece.Class.{Class}
use Rattle.snl_lex.specs.declared.piece.Piece.{Piece}
use Rattle.snl_lex.specs.Edit.{edit_of, made_pieces}
use Rattle.snl_lex.specs.PieceList.{is_token_class, last_pieces, piece_ends, pieces_between}
use Rattle.snl_lex.specs.Pieces.{LiesIn, is_token, moved_piece, piece_end, piece_length, pieces_of}
use Rattle.snl_items.specs.declared.tokens.TokenEdit.{TokenEdit}
use Rattle.snl_items.specs.Items.{mark_in}
use Rattle.snl_items.proofs.Counts.{by_class}
use Rattle.snl_items.proofs.ShiftedTokens.{shifted_told}
use Rattle.snl_items.proofs.Parts.{all_middle}
use Rattle.snl_items.proofs.TokenParts.{token_change}
use Rattle.snl_items.proofs.TokenPlaces.{edit_is}
use Rattle.snl_items.proofs.tokens.TokenChange.of.Goals as goal

-- How many tokens are among the pieces that are replaced, by their classes.
replaced_count : (ps : List Piece) (kinds : List Class) (a b : ℕ) → kinds ≡ map (λ p. p.kind) ps → count_by is_token_class (take (b - a) (drop a kinds)) ≡ length (filter is_token (pieces_between ps a b))
replaced_count ps kinds a b are =
    ap (count_by is_token_class) (ap (λ (ks : List Class). take (b - a) (drop a ks)) are ∙ ap (take (b - a)) (drop-map (λ p. p.kind) a ps) ∙ take-map (λ p. p.kind) (b - a) (drop a ps))
    ∙ by_class (pieces_between ps a b)

pub made_marks-requires-clause-inside : goal.made_marks-requires-clause-inside
made_marks-requires-clause-inside c =
    let edit = c.args.edit.now in
    let change = c.args.change.now in
    all_middle (LiesIn edit.text.now) (take change.kept_front (pieces_of edit.old.now)) (made_pieces change) (map (moved_piece edit.old_stop edit.new_stop) (last_pieces edit.old.now change.kept_back)) (pieces_of edit.text.now) c.requires.change.pieces
    (c.text_in_pieces.ensures.inside edit.text.now)

pub likeness_of-requires-clause-replaced : goal.likeness_of-requires-clause-replaced
likeness_of-requires-clause-replaced c =
    let old : List ℕ = c.args.edit.now.old.now in
    let front : ℕ = c.args.change.now.kept_front in
    let back : ℕ = c.args.change.now.kept_back in
    let ps : List Piece = pieces_of old in
    let many : c.len.result ≡ length ps = omega (arith, c.len.ensures, c.args.pieces.now.ends.ok, ap length c.requires.ends, length-map ps piece_end) in
    ap (λ (n : ℕ). c.count_tokens-start.result + n)
    (c.count_tokens.ensures ∙ replaced_count ps c.deref-2.result.now front (c.len.result - back) (c.deref-2.ensures.value ∙ c.requires.kinds)
    ∙ ap (λ (n : ℕ). length (filter is_token (pieces_between ps front (n - back)))) many)

pub likeness_of-requires-clause-made : goal.likeness_of-requires-clause-made
likeness_of-requires-clause-made c =
    let made : List Piece = filter is_token (made_pieces c.args.change.now) in
    ap (λ (n : ℕ). c.count_tokens-start.result + n) (omega (arith, c.len-2.ensures, c.in_ok-marks.marks.ok, ap length c.in_ok-marks.ensures, length-map made (mark_in c.args.edit.now.text.now)))

pub returns-clause-change : goal.returns-clause-change
returns-clause-change c =
    let edit = c.args.edit.now in
    let change = c.args.change.now in
    let is = c.requires.change in
    let old : List ℕ = edit.old.now in
    let text : List ℕ = edit.text.now in
    let start : ℕ = edit.start in
    let b : ℕ = edit.old_stop in
    let d : ℕ = edit.new_stop in
    let front : ℕ = change.kept_front in
    let back : ℕ = change.kept_back in
    let made : List Piece = made_pieces change in
    let ps : List Piece = pieces_of old in
    let many : c.len.result ≡ length ps = omega (arith, c.len.ensures, c.args.pieces.now.ends.ok, ap length c.requires.ends, length-map ps piece_end) in
    let front_same = c.kept_as_spelled.ensures.front_tokens old text start b d front (map piece_end made) back edit.edit is.recut in
    let back_same = c.kept_as_spelled.ensures.back_tokens old text start b d front (map piece_end made) back edit.edit is.recut in
    let old_ends : piece_ends old ≡ ends_of piece_length old = c.one_cut.ensures.only old (piece_ends old) (c.text_in_pieces.ensures.cut old) in
    let new_ends : piece_ends text ≡ ends_of piece_length text = c.one_cut.ensures.only text (piece_ends text) (c.text_in_pieces.ensures.cut text) in
    let old_rises : Rises 0 (piece_ends old) = subst (Rises 0) (sym old_ends) (c.ends_in_order.ensures.rise old) in
    let new_rises : Rises 0 (piece_ends text) = subst (Rises 0) (sym new_ends) (c.ends_in_order.ensures.rise text) in
    let recut : IsRecut piece_length old (ends_of piece_length old) text start b d front (map piece_end made) back =
    subst (λ (es : List ℕ). IsRecut piece_length old es text start b d front (map piece_end made) back) old_ends is.recut in
    let meets = c.meets_where_sought.ensures old text start b d front (map piece_end made) back recut in
    let starts : c.count_tokens-start.result ≡ length (filter is_token (take front ps)) =
    c.count_tokens-start.ensures ∙ ap (count_by is_token_class) (ap (take front) (c.deref.ensures.value ∙ c.requires.kinds) ∙ take-map (λ p. p.kind) front ps) ∙ by_class (take front ps) in
    let replaced : c.count_tokens.result ≡ length (filter is_token (pieces_between ps front (length ps - back))) =
    c.count_tokens.ensures ∙ replaced_count ps c.deref-2.result.now front (c.len.result - back) (c.deref-2.ensures.value ∙ c.requires.kinds)
    ∙ ap (λ (n : ℕ). length (filter is_token (pieces_between ps front (n - back)))) many in
    let old_stops : c.count_tokens-start.result + c.count_tokens.result ≡ length (filter is_token (take front ps)) + length (filter is_token (pieces_between ps front (length ps - back))) =
    omega (arith, starts, replaced) in
    let new_stops : c.count_tokens-start.result + c.len-2.result ≡ length (filter is_token (take front ps)) + length (filter is_token made) =
    omega (arith, starts, c.len-2.ensures, c.in_ok-marks.marks.ok, ap length c.in_ok-marks.ensures, length-map (filter is_token made) (mark_in text)) in
    let e : TokenEdit = record { start = c.count_tokens-start.result; old_stop = c.count_tokens-start.result + c.count_tokens.result; new_stop = c.count_tokens-start.result + c.len-2.result } in
    token_change (edit_of edit) change is front_same back_same _ starts old_stops new_stops
    (edit_is (edit_of edit) change is old_ends old_rises new_rises (c.pieces_as_listed.ensures old) (c.pieces_as_listed.ensures text) recut meets e starts old_stops new_stops)
    c.in_ok-marks.ensures c.in_ok-same.ensures.same.0 c.in_ok-same.ensures.same.1

pub returns-clause-shifted : goal.returns-clause-shifted
returns-clause-shifted c =
    let edit = c.args.edit.now in
    let change = c.args.change.now in
    let is = c.requires.change in
    let old : List ℕ = edit.old.now in
    let text : List ℕ = edit.text.now in
    let front : ℕ = change.kept_front in
    let back : ℕ = change.kept_back in
    let ps : List Piece = pieces_of old in
    let old_ends : piece_ends old ≡ ends_of piece_length old = c.one_cut.ensures.only old (piece_ends old) (c.text_in_pieces.ensures.cut old) in
    let old_rises : Rises 0 (piece_ends old) = subst (Rises 0) (sym old_ends) (c.ends_in_order.ensures.rise old) in
    let starts : c.count_tokens-start.result ≡ length (filter is_token (take front ps)) =
    c.count_tokens-start.ensures ∙ ap (count_by is_token_class) (ap (take front) (c.deref.ensures.value ∙ c.requires.kinds) ∙ take-map (λ p. p.kind) front ps) ∙ by_class (take front ps) in
    shifted_told (edit_of edit) change is
    old_rises (c.pieces_as_listed.ensures old) (c.text_in_pieces.ensures.inside old)
    (omega (arith, edit.edit.old_order)) (omega (arith, edit.edit.new_inside, edit.short))
    _ (returns-clause-change c) c.count_tokens-start.result (filter is_token (pieces_between ps front (length ps - back))) (filter is_token (made_pieces change)) starts refl refl
    c.in_ok-same.field-0.shifted c.in_ok-same.ensures.shifted
