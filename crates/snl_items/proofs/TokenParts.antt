-- What an edit of a text makes of its tokens.
use Rattle.std.proofs.Common.{◌≡◌, ℕ, ◌+◌, ◌-◌, ◌≤◌, Bool, List, [], ◌∷◌, ◌++◌, length, map, filter, take, drop, IsTrue, All, refl, sym, ap, ap₂, ◌∙◌, subst, append_assoc, arith}
use Rattle.std.proofs.lemmas.List.{length-map, map-append}
use Rattle.std.proofs.lemmas.List.Elements.{All-drop, All-filter, All-take, filter-append}
use Rattle.snl_cut.specs.Cut.{IsEdit}
use Rattle.snl_lex.specs.declared.piece.Class.{Class}
use Rattle.snl_lex.specs.declared.piece.Piece.{Piece}
use Rattle.snl_lex.specs.PieceList.{last_pieces, pieces_between, spelled, spelling, tokens_spelled}
use Rattle.snl_lex.specs.declared.piece_list.PieceChange.{PieceChange}
use Rattle.snl_lex.specs.Edit.{Edit, IsChange, made_pieces}
use Rattle.snl_lex.specs.Pieces.{LiesIn, is_token, moved_piece, pieces_of, tokens_of}
use Rattle.snl_grammar.specs.declared.marks.Mark.{Mark}
use Rattle.snl_grammar.specs.Marks.{mark_of}
use Rattle.snl_items.specs.declared.tokens.TokenChange.{TokenChange}
use Rattle.snl_items.specs.Items.{mark_in, marks_of, spellings}
use Rattle.snl_items.specs.Fresh.{replaced_alike, spelled_alike, token_edit_of}
use Rattle.snl_items.specs.Changes.{IsTokenChange, made_in}
use Rattle.snl_items.proofs.Parts.{all_middle, first_part, in_parts, last_part, middle_part, parts_edited, parts_replaced}
use Rattle.snl_items.proofs.Alike.{told_alike}
use Rattle.snl_lex.specs.PieceLaws.{tokens_moved}

-- The mark of a token goes by its spelling.
abbrev pub mark_by : Class × List ℕ → Mark
mark_by s = mark_of s.0 s.1

pub marks_by : (text : List ℕ) (ts : List Piece) → map (mark_in text) ts ≡ map mark_by (spelled text ts)
marks_by text [] = refl
marks_by text (t ∷ ts) = ap (λ (l : List Mark). mark_in text t ∷ l) (marks_by text ts)

filter_three : (xs ys zs : List Piece) → filter is_token (xs ++ (ys ++ zs)) ≡ filter is_token xs ++ (filter is_token ys ++ filter is_token zs)
filter_three xs ys zs = filter-append is_token xs (ys ++ zs) ∙ ap (λ (l : List Piece). filter is_token xs ++ l) (filter-append is_token ys zs)

map_three : {X Y : Type 0} (f : X → Y) (xs ys zs : List X) → map f (xs ++ (ys ++ zs)) ≡ map f xs ++ (map f ys ++ map f zs)
map_three {X} {Y} f xs ys zs = map-append f xs (ys ++ zs) ∙ ap (λ (l : List Y). map f xs ++ l) (map-append f ys zs)

module _ (e : Edit) (pieces : PieceChange) (is : IsChange e pieces) where
  abbrev kept_count : ℕ
  kept_count = length (pieces_of e.old) - pieces.kept_back

  -- the tokens of the pieces at the front, of those that are replaced, of those at the back, and of
  -- those that are made
  abbrev pub at_front : List Piece
  at_front = filter is_token (take pieces.kept_front (pieces_of e.old))

  abbrev pub replaced : List Piece
  replaced = filter is_token (pieces_between (pieces_of e.old) pieces.kept_front kept_count)

  abbrev pub at_back : List Piece
  at_back = filter is_token (last_pieces e.old pieces.kept_back)

  abbrev pub fresh : List Piece
  fresh = filter is_token (made_pieces pieces)

  ordered : pieces.kept_front ≤ kept_count
  ordered = omega (arith, is.order)

  pub old_tokens : tokens_of e.old ≡ at_front ++ (replaced ++ at_back)
  old_tokens = ap (filter is_token) (in_parts (pieces_of e.old) pieces.kept_front kept_count ordered) ∙ filter_three (take pieces.kept_front (pieces_of e.old)) (pieces_between (pieces_of e.old) pieces.kept_front kept_count) (last_pieces e.old pieces.kept_back)

  made_tokens : tokens_of e.text ≡ at_front ++ (fresh ++ filter is_token (map (moved_piece e.old_stop e.new_stop) (last_pieces e.old pieces.kept_back)))
  made_tokens =
      ap (filter is_token) (is.pieces ∙ append_assoc (take pieces.kept_front (pieces_of e.old)) (made_pieces pieces) (map (moved_piece e.old_stop e.new_stop) (last_pieces e.old pieces.kept_back)))
      ∙ filter_three (take pieces.kept_front (pieces_of e.old)) (made_pieces pieces) (map (moved_piece e.old_stop e.new_stop) (last_pieces e.old pieces.kept_back))

  pub new_tokens : tokens_of e.text ≡ at_front ++ (fresh ++ map (moved_piece e.old_stop e.new_stop) at_back)
  new_tokens = made_tokens ∙ ap (λ (l : List Piece). at_front ++ (fresh ++ l)) (tokens_moved e.old_stop e.new_stop (last_pieces e.old pieces.kept_back))

  old_spelled : spellings e.old ≡ spelled e.old at_front ++ (spelled e.old replaced ++ spelled e.old at_back)
  old_spelled = ap (spelled e.old) old_tokens ∙ map_three (spelling e.old) at_front replaced at_back

  module _ (front_same : tokens_spelled e.text (take pieces.kept_front (pieces_of e.old)) ≡ tokens_spelled e.old (take pieces.kept_front (pieces_of e.old))) (back_same : tokens_spelled e.text (map (moved_piece e.old_stop e.new_stop) (last_pieces e.old pieces.kept_back)) ≡ tokens_spelled e.old (last_pieces e.old pieces.kept_back)) where
    new_spelled : spellings e.text ≡ spelled e.old at_front ++ (spelled e.text fresh ++ spelled e.old at_back)
    new_spelled =
        ap (spelled e.text) made_tokens ∙ map_three (spelling e.text) at_front fresh (filter is_token (map (moved_piece e.old_stop e.new_stop) (last_pieces e.old pieces.kept_back)))
        ∙ ap₂ (λ (x y : List (Class × List ℕ)). x ++ (spelled e.text fresh ++ y)) front_same back_same

    old_marks : marks_of e.old ≡ map mark_by (spelled e.old at_front) ++ (map mark_by (spelled e.old replaced) ++ map mark_by (spelled e.old at_back))
    old_marks = marks_by e.old (tokens_of e.old) ∙ ap (map mark_by) old_spelled ∙ map_three mark_by (spelled e.old at_front) (spelled e.old replaced) (spelled e.old at_back)

    new_marks : marks_of e.text ≡ map mark_by (spelled e.old at_front) ++ (map (mark_in e.text) fresh ++ map mark_by (spelled e.old at_back))
    new_marks =
        marks_by e.text (tokens_of e.text) ∙ ap (map mark_by) new_spelled ∙ map_three mark_by (spelled e.old at_front) (spelled e.text fresh) (spelled e.old at_back)
        ∙ ap (λ (l : List Mark). map mark_by (spelled e.old at_front) ++ (l ++ map mark_by (spelled e.old at_back))) (sym (marks_by e.text fresh))

    -- the edit of the tokens, by how many of them there are in each part
    module _ (change : TokenChange) (starts : change.edit.start ≡ length at_front) (old_stops : change.edit.old_stop ≡ length at_front + length replaced) (new_stops : change.edit.new_stop ≡ length at_front + length fresh) where
      pub tokens_are : tokens_of e.text ≡ take change.edit.start (tokens_of e.old) ++ (fresh ++ map (moved_piece e.old_stop e.new_stop) (drop change.edit.old_stop (tokens_of e.old)))
      tokens_are =
          new_tokens
          ∙ sym (ap₂ (λ (x y : List Piece). x ++ (fresh ++ map (moved_piece e.old_stop e.new_stop) y))
          (ap (take change.edit.start) old_tokens ∙ first_part at_front replaced at_back change.edit.start (sym starts))
          (ap (drop change.edit.old_stop) old_tokens ∙ last_part at_front replaced at_back change.edit.old_stop (sym old_stops)))

      front_long : length (spelled e.old at_front) ≡ change.edit.start
      front_long = length-map at_front (spelling e.old) ∙ sym starts

      replaced_long : length (spelled e.old at_front) + length (spelled e.old replaced) ≡ change.edit.old_stop
      replaced_long = omega (arith, length-map at_front (spelling e.old), length-map replaced (spelling e.old))

      fresh_long : length (spelled e.old at_front) + length (spelled e.text fresh) ≡ change.edit.new_stop
      fresh_long = omega (arith, length-map at_front (spelling e.old), length-map fresh (spelling e.text))

      pub spellings_edited : IsEdit (spellings e.old) (spellings e.text) change.edit.start change.edit.old_stop change.edit.new_stop
      spellings_edited =
          subst (λ (l : List (Class × List ℕ)). IsEdit l (spellings e.text) change.edit.start change.edit.old_stop change.edit.new_stop) (sym old_spelled)
          (subst (λ (l : List (Class × List ℕ)). IsEdit (spelled e.old at_front ++ (spelled e.old replaced ++ spelled e.old at_back)) l change.edit.start change.edit.old_stop change.edit.new_stop) (sym new_spelled)
          (parts_edited (spelled e.old at_front) (spelled e.old replaced) (spelled e.old at_back) (spelled e.text fresh) change.edit.start change.edit.old_stop change.edit.new_stop front_long replaced_long fresh_long))

      marks_front : length (map mark_by (spelled e.old at_front)) ≡ change.edit.start
      marks_front = length-map (spelled e.old at_front) mark_by ∙ front_long

      marks_replaced : length (map mark_by (spelled e.old at_front)) + length (map mark_by (spelled e.old replaced)) ≡ change.edit.old_stop
      marks_replaced = omega (arith, length-map (spelled e.old at_front) mark_by, length-map (spelled e.old replaced) mark_by, replaced_long)

      marks_fresh : length (map mark_by (spelled e.old at_front)) + length (map (mark_in e.text) fresh) ≡ change.edit.new_stop
      marks_fresh = omega (arith, length-map (spelled e.old at_front) mark_by, length-map fresh (mark_in e.text), front_long)

      pub marks_edited : IsEdit (marks_of e.old) (marks_of e.text) change.edit.start change.edit.old_stop change.edit.new_stop
      marks_edited =
          subst (λ (l : List Mark). IsEdit l (marks_of e.text) change.edit.start change.edit.old_stop change.edit.new_stop) (sym old_marks)
          (subst (λ (l : List Mark). IsEdit (map mark_by (spelled e.old at_front) ++ (map mark_by (spelled e.old replaced) ++ map mark_by (spelled e.old at_back))) l change.edit.start change.edit.old_stop change.edit.new_stop) (sym new_marks)
          (parts_edited (map mark_by (spelled e.old at_front)) (map mark_by (spelled e.old replaced)) (map mark_by (spelled e.old at_back)) (map (mark_in e.text) fresh) change.edit.start change.edit.old_stop change.edit.new_stop marks_front marks_replaced marks_fresh))

      pub marks_are : marks_of e.text ≡ take change.edit.start (marks_of e.old) ++ (map (mark_in e.text) fresh ++ drop change.edit.old_stop (marks_of e.old))
      marks_are =
          new_marks
          ∙ parts_replaced (map mark_by (spelled e.old at_front)) (map mark_by (spelled e.old replaced)) (map mark_by (spelled e.old at_back)) (map (mark_in e.text) fresh) change.edit.start change.edit.old_stop marks_front marks_replaced
          ∙ ap (λ (l : List Mark). take change.edit.start l ++ (map (mark_in e.text) fresh ++ drop change.edit.old_stop l)) (sym old_marks)

      -- the fresh tokens, by their numbers among all
      pub made_are : made_in e change.edit ≡ fresh
      made_are =
          ap (λ (l : List Piece). take (change.edit.new_stop - change.edit.start) (drop change.edit.start l)) new_tokens
          ∙ middle_part at_front fresh (map (moved_piece e.old_stop e.new_stop) at_back) change.edit.start (change.edit.new_stop - change.edit.start) (sym starts) (omega (arith, starts, new_stops))

      -- the replaced tokens and the fresh ones, as the definition takes them out of all
      pub replaced_spelled : take (change.edit.old_stop - change.edit.start) (drop change.edit.start (spellings e.old)) ≡ spelled e.old replaced
      replaced_spelled =
          ap (λ (l : List (Class × List ℕ)). take (change.edit.old_stop - change.edit.start) (drop change.edit.start l)) old_spelled
          ∙ middle_part (spelled e.old at_front) (spelled e.old replaced) (spelled e.old at_back) change.edit.start (change.edit.old_stop - change.edit.start) front_long (omega (arith, length-map replaced (spelling e.old)))

      pub fresh_spelled : take (change.edit.new_stop - change.edit.start) (drop change.edit.start (spellings e.text)) ≡ spelled e.text fresh
      fresh_spelled =
          ap (λ (l : List (Class × List ℕ)). take (change.edit.new_stop - change.edit.start) (drop change.edit.start l)) new_spelled
          ∙ middle_part (spelled e.old at_front) (spelled e.text fresh) (spelled e.old at_back) change.edit.start (change.edit.new_stop - change.edit.start) front_long (omega (arith, length-map fresh (spelling e.text)))

      pub same_told : (t : Bool) → (IsTrue t → spelled e.old replaced ≡ spelled e.text fresh) → (spelled e.old replaced ≡ spelled e.text fresh → IsTrue t) → t ≡ replaced_alike e change.edit
      same_told t h k =
          told_alike t (spelled e.old replaced) (spelled e.text fresh) h k
          ∙ sym (ap₂ (λ (x y : List (Class × List ℕ)). spelled_alike x y) replaced_spelled fresh_spelled)

      pub token_change : change.edit ≡ token_edit_of e → change.marks.items ≡ map (mark_in e.text) fresh
          → (IsTrue change.same → spelled e.old replaced ≡ spelled e.text fresh) → (spelled e.old replaced ≡ spelled e.text fresh → IsTrue change.same) → IsTokenChange e change
      token_change is_edit marks_is h k = record {
        edit_is = is_edit;
        count = omega (arith, new_stops, starts, ap length made_are);
        tokens = tokens_are ∙ ap (λ (l : List Piece). take change.edit.start (tokens_of e.old) ++ (l ++ map (moved_piece e.old_stop e.new_stop) (drop change.edit.old_stop (tokens_of e.old)))) (sym made_are);
        made_marks_are = marks_is ∙ ap (map (mark_in e.text)) (sym made_are);
        marks = marks_are ∙ ap (λ (l : List Mark). take change.edit.start (marks_of e.old) ++ (l ++ drop change.edit.old_stop (marks_of e.old))) (sym marks_is);
        of_marks = marks_edited;
        of_spellings = spellings_edited;
        same_is = same_told change.same h k;
      }

-- Parts of pieces that lie in a text lie in it.
pub made_lie : (text : List ℕ) (xs ys zs ps : List Piece) → ps ≡ (xs ++ ys) ++ zs → All (LiesIn text) ps → All (LiesIn text) (filter is_token ys)
made_lie text xs ys zs ps e h = All-filter is_token (LiesIn text) ys (all_middle (LiesIn text) xs ys zs ps e h)

pub between_lie : (text : List ℕ) (ps : List Piece) (a b : ℕ) → All (LiesIn text) ps → All (LiesIn text) (filter is_token (pieces_between ps a b))
between_lie text ps a b h = All-filter is_token (LiesIn text) (pieces_between ps a b) (All-take (LiesIn text) (b - a) (drop a ps) (All-drop (LiesIn text) a ps h))
