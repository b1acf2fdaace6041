-- Where the tokens are that an edit keeps at the front and at the back.
use Rattle.std.proofs.Common.{◌≡◌, ℕ, zero, suc, ◌+◌, ◌-◌, ◌≤◌, inl, inr, All, IfSome, Option, Some, None, List, [], ◌∷◌, ◌++◌, length, map, filter, take, drop, refl, sym, ap, ap₂, ◌∙◌, subst, arith, length-append}
use Rattle.std.specs.List.{AllByRecursion}
use Rattle.std.proofs.lemmas.Bool.{cases_lt}
use Rattle.std.proofs.lemmas.List.{drop-append-le, drop-drop, drop_at, length-map, map-append, take-append-le}
use Rattle.std.proofs.Math.Seq.{take-append-add}
use Rattle.std.proofs.lemmas.List.Elements.{All-append, All-drop, All-filter, All-from_recursion, All-same, All-take, All-weaker, recursion_from_All}
use Rattle.snl_cut.specs.Cut.{Rises, ends_below, last_end}
use Rattle.snl_lex.specs.declared.piece.Class.{Class}
use Rattle.snl_lex.specs.declared.piece.Piece.{Piece}
use Rattle.snl_lex.specs.declared.shift.Shift.{Shift}
use Rattle.snl_lex.specs.PieceList.{last_pieces, listed_pieces, piece_ends, piece_kinds}
use Rattle.snl_lex.specs.declared.piece_list.PieceChange.{PieceChange}
use Rattle.snl_lex.specs.Edit.{Edit, IsChange, made_pieces}
use Rattle.snl_lex.specs.Pieces.{LiesIn, is_token, moved_piece, piece_end, pieces_of, tokens_of}
use Rattle.snl_lex.specs.Shift.{most, shifted_piece}
use Rattle.snl_items.specs.declared.shifted.Shifted.{Shifted}
use Rattle.snl_items.specs.declared.tokens.TokenChange.{TokenChange}
use Rattle.snl_items.specs.Changes.{AreLeft, AreLeftFrom, AreShifted, IsShiftOf, IsTokenChange, LeavesAround, made_in}
use Rattle.snl_items.proofs.ItemParts.{none_fresh, same_ends, same_spellings}
use Rattle.snl_items.proofs.Parts.{first_part, last_part}
use Rattle.snl_items.proofs.TokenParts.{at_back, at_front, new_tokens, old_tokens, replaced}
use Rattle.snl_cut.specs.CutLaws.{below_yes, below_no}
use Rattle.snl_lex.specs.ShiftLaws.{early_offset, late_offset}

-- The first pieces, as many as end before a place, do.
first_end : (place : ℕ) (ps : List Piece) → AllByRecursion (λ p. piece_end p ≤ place) (take (ends_below place (map piece_end ps)) ps)
first_end place [] = tt
first_end place (p ∷ ps) =
    elim (cases_lt (piece_end p) place) [
      | inl less ↦
          subst (λ (n : ℕ). AllByRecursion (λ (q : Piece). piece_end q ≤ place) (take n (p ∷ ps))) (sym (below_yes (piece_end p) place (map piece_end ps) less))
          (omega arith, first_end place ps)
      | inr more ↦
          subst (λ (n : ℕ). AllByRecursion (λ (q : Piece). piece_end q ≤ place) (take n (p ∷ ps))) (sym (below_no (piece_end p) place (map piece_end ps) more)) tt
    ]

pub begin_after : (place from : ℕ) (ends : List ℕ) (kinds : List Class) → Rises from ends → place ≤ from → AllByRecursion (λ p. place ≤ p.start) (listed_pieces from ends kinds)
begin_after place from [] kinds r le = tt
begin_after place from (e ∷ es) [] r le = tt
begin_after place from (e ∷ es) (k ∷ ks) r le = (le, begin_after place e es ks r.1 (omega (arith, r.0)))

-- The last pieces begin where those before them end, or after it.
last_begin : (from : ℕ) (ends : List ℕ) (kinds : List Class) (n : ℕ) → Rises from ends → AllByRecursion (λ p. last_end from (take n ends) ≤ p.start) (drop n (listed_pieces from ends kinds))
last_begin from ends kinds zero r = begin_after from from ends kinds r (omega arith)
last_begin from [] kinds (suc n) r = tt
last_begin from (e ∷ es) [] (suc n) r = tt
last_begin from (e ∷ es) (k ∷ ks) (suc n) r = last_begin e es ks n r.1

stay : (s : Shift) (ps : List Piece) → AllByRecursion (λ p. piece_end p ≤ s.start) ps → AllByRecursion (λ p. 1 ≤ p.len) ps → map (shifted_piece s) ps ≡ ps
stay s [] h some = refl
stay s (p ∷ ps) h some =
    ap₂ (λ (o : ℕ) (l : List Piece). let q : Piece = record { kind = p.kind; start = o; len = p.len } in q ∷ l) (early_offset s p.start (omega (arith, h.0, some.0))) (stay s ps h.1 some.1)

move : (s : Shift) (most_start : ℕ) (ps : List Piece) → s.start ≤ s.old_stop → most_start + s.new_stop ≤ most → AllByRecursion (λ p. s.old_stop ≤ p.start) ps → AllByRecursion (λ p. p.start ≤ most_start) ps
    → map (moved_piece s.old_stop s.new_stop) ps ≡ map (shifted_piece s) ps
move s most_start [] order fits h within = refl
move s most_start (p ∷ ps) order fits h within =
    ap₂ (λ (o : ℕ) (l : List Piece). let q : Piece = record { kind = p.kind; start = o; len = p.len } in q ∷ l)
    (sym (late_offset s p.start (omega (arith, h.0)) (omega (arith, within.0)))) (move s most_start ps order fits h.1 within.1)

-- What lies in a text has a byte, and begins in it.
some_byte : (text : List ℕ) (ps : List Piece) → AllByRecursion (LiesIn text) ps → AllByRecursion (λ p. 1 ≤ p.len) ps
some_byte text [] h = tt
some_byte text (p ∷ ps) h = (h.0.0, some_byte text ps h.1)

begins_in : (text : List ℕ) (ps : List Piece) → AllByRecursion (LiesIn text) ps → AllByRecursion (λ p. p.start ≤ length text) ps
begins_in text [] h = tt
begins_in text (p ∷ ps) h = (omega (arith, h.0.1), begins_in text ps h.1)

-- Three parts of tokens, the middle one of which is left.
left_within : (s : Shift) (front middle back made : List Piece) (n : ℕ) → map (shifted_piece s) front ≡ front → All (λ p. piece_end p ≤ s.start) front
    → AreLeft s middle made n → All (λ p. s.old_stop ≤ p.start) back
    → AreLeft s (front ++ (middle ++ back)) (front ++ (made ++ map (shifted_piece s) back)) (length front + n)
left_within s front middle back made n still before left after = record {
  few = omega (arith, left.few, length-append front (middle ++ back), length-append middle back);
  made_are =
      ap₂ (λ (x y : List Piece). x ++ (y ++ map (shifted_piece s) back)) (sym still) left.made_are
      ∙ sym (map-append (shifted_piece s) front (middle ++ back) ∙ ap (λ (l : List Piece). map (shifted_piece s) front ++ l) (map-append (shifted_piece s) middle back));
  in_front =
      All-same (λ p. piece_end p ≤ s.start) (take (length front + n) (front ++ (middle ++ back))) (front ++ take n middle)
      (take-append-add front (middle ++ back) n ∙ ap (λ (l : List Piece). front ++ l) (take-append-le n middle back left.few))
      (All-append (λ p. piece_end p ≤ s.start) front (take n middle) before left.in_front);
  after =
      All-same (λ p. s.old_stop ≤ p.start) (drop (length front + n) (front ++ (middle ++ back))) (drop n middle ++ back)
      (sym (drop-drop n (length front) (front ++ (middle ++ back))) ∙ ap (drop n) (drop_at front (middle ++ back) (length front) refl) ∙ drop-append-le n middle back left.few)
      (All-append (λ p. s.old_stop ≤ p.start) (drop n middle) back left.after after);
}

module _ (e : Edit) (pieces : PieceChange) (is : IsChange e pieces) where
  abbrev front_tokens : List Piece
  front_tokens = at_front e pieces is

  abbrev middle_tokens : List Piece
  middle_tokens = replaced e pieces is

  abbrev back_tokens : List Piece
  back_tokens = at_back e pieces is

  front_ends : All (λ p. piece_end p ≤ e.start) front_tokens
  front_ends =
      All-filter is_token (λ p. piece_end p ≤ e.start) (take pieces.kept_front (pieces_of e.old))
      (All-from_recursion (λ p. piece_end p ≤ e.start) (take pieces.kept_front (pieces_of e.old))
      (subst (λ (n : ℕ). AllByRecursion (λ (p : Piece). piece_end p ≤ e.start) (take n (pieces_of e.old))) (sym is.recut.kept) (first_end e.start (pieces_of e.old))))

  -- what the laws of pieces say of the old text
  module _ (rises : Rises 0 (piece_ends e.old)) (listed : listed_pieces 0 (piece_ends e.old) (piece_kinds e.old) ≡ pieces_of e.old) (inside : All (LiesIn e.old) (pieces_of e.old)) where
    back_begins : All (λ p. e.old_stop ≤ p.start) back_tokens
    back_begins =
        let n : ℕ = length (pieces_of e.old) - pieces.kept_back in
        let place : ℕ = last_end 0 (take n (piece_ends e.old)) in
        let many : length (piece_ends e.old) ≡ length (pieces_of e.old) = length-map (pieces_of e.old) piece_end in
        let there : place ≡ (is.recut.meet - e.new_stop) + e.old_stop = ap (λ (m : ℕ). last_end 0 (take (m - pieces.kept_back) (piece_ends e.old))) (sym many) ∙ is.recut.from in
        let all : All (λ p. place ≤ p.start) (drop n (pieces_of e.old)) =
        subst (λ (l : List Piece). All (λ p. place ≤ p.start) (drop n l)) listed
        (All-from_recursion (λ p. place ≤ p.start) (drop n (listed_pieces 0 (piece_ends e.old) (piece_kinds e.old))) (last_begin 0 (piece_ends e.old) (piece_kinds e.old) n rises)) in
        All-filter is_token (λ p. e.old_stop ≤ p.start) (drop n (pieces_of e.old))
        (All-weaker (λ p. place ≤ p.start) (λ p. e.old_stop ≤ p.start) (λ p h. omega (arith, h)) (drop n (pieces_of e.old)) all)

    front_lie : AllByRecursion (LiesIn e.old) front_tokens
    front_lie = recursion_from_All (LiesIn e.old) front_tokens (All-filter is_token (LiesIn e.old) (take pieces.kept_front (pieces_of e.old)) (All-take (LiesIn e.old) pieces.kept_front (pieces_of e.old) inside))

    back_lie : AllByRecursion (LiesIn e.old) back_tokens
    back_lie =
        recursion_from_All (LiesIn e.old) back_tokens
        (All-filter is_token (LiesIn e.old) (last_pieces e.old pieces.kept_back) (All-drop (LiesIn e.old) (length (pieces_of e.old) - pieces.kept_back) (pieces_of e.old) inside))

    -- The tokens at the front end before the edit and stay; those at the back begin after it and
    -- move with the bytes.
    front_before : (s : Shift) → IsShiftOf e s → All (λ p. piece_end p ≤ s.start) front_tokens
    front_before s at = subst (λ (m : ℕ). All (λ (p : Piece). piece_end p ≤ m) front_tokens) (sym at.start_is) front_ends

    front_stays : (s : Shift) → IsShiftOf e s → map (shifted_piece s) front_tokens ≡ front_tokens
    front_stays s at = stay s front_tokens (recursion_from_All (λ p. piece_end p ≤ s.start) front_tokens (front_before s at)) (some_byte e.old front_tokens front_lie)

    back_after : (s : Shift) → IsShiftOf e s → All (λ p. s.old_stop ≤ p.start) back_tokens
    back_after s at = subst (λ (m : ℕ). All (λ (p : Piece). m ≤ p.start) back_tokens) (sym at.old_stop_is) back_begins

    back_moves : (s : Shift) → IsShiftOf e s → e.start ≤ e.old_stop → length e.old + e.new_stop ≤ most → map (moved_piece e.old_stop e.new_stop) back_tokens ≡ map (shifted_piece s) back_tokens
    back_moves s at order fits =
        ap₂ (λ (x y : ℕ). map (moved_piece x y) back_tokens) (sym at.old_stop_is) (sym at.new_stop_is)
        ∙ move s (length e.old) back_tokens (omega (arith, at.start_is, at.old_stop_is)) (omega (arith, at.new_stop_is)) (recursion_from_All (λ p. s.old_stop ≤ p.start) back_tokens (back_after s at)) (begins_in e.old back_tokens back_lie)

    -- All tokens of the text are left, if those are that the edit replaces.
    pub all_left : (s : Shift) → IsShiftOf e s → e.start ≤ e.old_stop → length e.old + e.new_stop ≤ most → (n : ℕ) → AreLeft s middle_tokens (filter is_token (made_pieces pieces)) n
        → AreLeft s (tokens_of e.old) (tokens_of e.text) (length front_tokens + n)
    all_left s at order fits n left =
        let were = old_tokens e pieces is in
        let are : tokens_of e.text ≡ front_tokens ++ (filter is_token (made_pieces pieces) ++ map (shifted_piece s) back_tokens) =
        new_tokens e pieces is ∙ ap (λ (l : List Piece). front_tokens ++ (filter is_token (made_pieces pieces) ++ l)) (back_moves s at order fits) in
        subst (λ (l : List Piece). AreLeft s l (tokens_of e.text) (length front_tokens + n)) (sym were)
        (subst (λ (l : List Piece). AreLeft s (front_tokens ++ (middle_tokens ++ back_tokens)) l (length front_tokens + n)) (sym are)
        (left_within s front_tokens middle_tokens back_tokens (filter is_token (made_pieces pieces)) n (front_stays s at) (front_before s at) left (back_after s at)))

    -- The tokens at the front and at the back are left, where these are what the edit of the tokens
    -- doesn't replace.
    pub left_around : (s : Shift) → IsShiftOf e s → e.start ≤ e.old_stop → length e.old + e.new_stop ≤ most → (tokens : TokenChange)
        → IsTokenChange e tokens → tokens.edit.start ≡ length front_tokens → tokens.edit.old_stop ≡ length front_tokens + length middle_tokens
        → LeavesAround s (tokens_of e.old) (tokens_of e.text) (made_in e tokens.edit) tokens.edit
    left_around s at order fits tokens change starts stops =
        let were = old_tokens e pieces is in
        let first : front_tokens ≡ take tokens.edit.start (tokens_of e.old) = sym (ap (take tokens.edit.start) were ∙ first_part front_tokens middle_tokens back_tokens tokens.edit.start (sym starts)) in
        let last : back_tokens ≡ drop tokens.edit.old_stop (tokens_of e.old) = sym (ap (drop tokens.edit.old_stop) were ∙ last_part front_tokens middle_tokens back_tokens tokens.edit.old_stop (sym stops)) in
        let before = front_before s at in
        let after = back_after s at in
        record {
          in_front = subst (All (λ p. piece_end p ≤ s.start)) first before;
          after = subst (All (λ p. s.old_stop ≤ p.start)) last after;
          tokens = change.tokens
              ∙ ap₂ (λ (x y : List Piece). x ++ (made_in e tokens.edit ++ y)) (sym first ∙ sym (front_stays s at) ∙ ap (map (shifted_piece s)) first)
              (ap (map (moved_piece e.old_stop e.new_stop)) (sym last) ∙ back_moves s at order fits ∙ ap (map (shifted_piece s)) last);
        }

    -- So the edit shifts all tokens, if it leaves those that it replaces and they are spelled as
    -- before.
    pub one_shifted : e.start ≤ e.old_stop → length e.old + e.new_stop ≤ most → (tokens : TokenChange) → IsTokenChange e tokens
        → (from : ℕ) (before made_now : List Piece) → from ≡ length front_tokens → before ≡ middle_tokens → made_now ≡ filter is_token (made_pieces pieces)
        → (t : Shifted) → AreLeftFrom e tokens.same from before made_now t → AreShifted e t.by t.before
    one_shifted order fits tokens change from before made_now from_is before_is made_is t left = record {
      by = left.by;
      spelled = same_spellings e tokens change left.alike;
      items = same_ends e tokens change left.alike;
      left =
          let there : t.before ≡ length front_tokens + left.count = omega (arith, left.before) in
          subst (AreLeft t.by (tokens_of e.old) (tokens_of e.text)) (sym there)
          (all_left t.by left.by order fits left.count
          (subst (λ (l : List Piece). AreLeft t.by middle_tokens l left.count) made_is (subst (λ (l : List Piece). AreLeft t.by l made_now left.count) before_is left.left)));
      none_fresh = none_fresh e tokens change left.alike;
    }

    pub shifted_told : e.start ≤ e.old_stop → length e.old + e.new_stop ≤ most → (tokens : TokenChange) → IsTokenChange e tokens
        → (from : ℕ) (before made_now : List Piece) → from ≡ length front_tokens → before ≡ middle_tokens → made_now ≡ filter is_token (made_pieces pieces)
        → (t : Option Shifted) → IfSome t (AreLeftFrom e tokens.same from before made_now) → IfSome t (λ u. AreShifted e u.by u.before)
    shifted_told order fits tokens change from before made_now from_is before_is made_is None left = left
    shifted_told order fits tokens change from before made_now from_is before_is made_is (Some t) left =
        one_shifted order fits tokens change from before made_now from_is before_is made_is t left
