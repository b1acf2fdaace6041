-- What an edit of a text makes of its tokens and of its items.
use Rattle.std.specs.Prelude.{◌≡◌, ℕ, ◌+◌, ◌-◌, ◌≤◌, ◌⊎◌, All, Bool, true, List, [], ◌++◌, filter, length, map, take, drop}
use Rattle.snl_cut.specs.Cut.{IsEdit, ends_below, joined, last_end, members}
use Rattle.snl_lex.specs.declared.piece.Piece.{Piece}
use Rattle.snl_lex.specs.declared.shift.Shift.{Shift}
use Rattle.snl_lex.specs.declared.piece_list.PieceChange.{PieceChange}
use Rattle.snl_lex.specs.Edit.{Edit, made_pieces}
use Rattle.snl_lex.specs.Lines.{lines_between}
use Rattle.snl_lex.specs.PieceList.{pieces_between}
use Rattle.snl_lex.specs.Pieces.{is_token, moved_piece, piece_end, pieces_of, tokens_of}
use Rattle.snl_lex.specs.Shift.{shifted_piece}
use Rattle.snl_items.specs.declared.item_list.ItemChange.{ItemChange}
use Rattle.snl_items.specs.declared.shifted.Shifted.{Shifted}
use Rattle.snl_items.specs.declared.tokens.TokenChange.{TokenChange}
use Rattle.snl_items.specs.declared.tokens.TokenEdit.{TokenEdit}
use Rattle.snl_items.specs.Items.{item_ends, mark_in, marks_of, spelled_items, spellings}
use Rattle.snl_items.specs.Fresh.{fresh_items_of, replaced_alike, token_edit_of}
use Rattle.snl_items.specs.OwnTokens.{tokens_between}

-- The tokens that an edit of a text makes, where it makes this edit of the tokens.
abbrev pub made_in : Edit → TokenEdit → List Piece
made_in e tokens = tokens_between (tokens_of e.text) tokens.start tokens.new_stop

-- The tokens that an edit of a text replaces, and those that it makes, where it makes this of the
-- pieces.
abbrev pub replaced_tokens : List ℕ → PieceChange → List Piece
replaced_tokens old change = filter is_token (pieces_between (pieces_of old) change.kept_front (length (pieces_of old) - change.kept_back))

abbrev pub made_tokens : PieceChange → List Piece
made_tokens change = filter is_token (made_pieces change)

-- An edit of a text makes this of its tokens: other tokens with these marks in the place of some.
-- `same` says whether they are spelled as those that they replace.
pub record IsTokenChange (e : Edit) (change : TokenChange) : Type 0 where
  pub edit_is : change.edit ≡ token_edit_of e
  pub count : change.edit.new_stop ≡ change.edit.start + length (made_in e change.edit)
  pub tokens : tokens_of e.text ≡ take change.edit.start (tokens_of e.old) ++ (made_in e change.edit ++ map (moved_piece e.old_stop e.new_stop) (drop change.edit.old_stop (tokens_of e.old)))
  pub made_marks_are : change.marks.items ≡ map (mark_in e.text) (made_in e change.edit)
  pub marks : marks_of e.text ≡ take change.edit.start (marks_of e.old) ++ (change.marks.items ++ drop change.edit.old_stop (marks_of e.old))
  pub of_marks : IsEdit (marks_of e.old) (marks_of e.text) change.edit.start change.edit.old_stop change.edit.new_stop
  pub of_spellings : IsEdit (spellings e.old) (spellings e.text) change.edit.start change.edit.old_stop change.edit.new_stop
  pub same_is : change.same ≡ replaced_alike e change.edit

-- An edit of a text, which makes this edit of its tokens, keeps so many items at the front and so
-- many at the back, and makes those between.
pub record IsItemChange (e : Edit) (tokens : TokenEdit) (change : ItemChange) : Type 0 where
  pub order : change.kept_front + change.kept_back ≤ length (item_ends e.old)
  -- kept at the front are the items that end before the edit; or all items are kept, and none is
  -- made
  pub before : (change.kept_front ≡ ends_below tokens.start (item_ends e.old)) ⊎ ((change.kept_front ≡ length (item_ends e.old)) × (change.made.items ≡ []))
  pub fresh : change.made.items ≡ fresh_items_of e
  pub ends : item_ends e.text ≡ joined (item_ends e.old) tokens.old_stop tokens.new_stop change.kept_front change.made.items change.kept_back
  -- the kept items have the tokens that they had
  pub items : spelled_items e.text
      ≡ take change.kept_front (spelled_items e.old)
      ++ (members (spellings e.text) (last_end 0 (take change.kept_front (item_ends e.old))) change.made.items ++ drop (length (item_ends e.old) - change.kept_back) (spelled_items e.old))
  -- the items that are kept at the back begin after the edit, and where those that are made end
  pub after : tokens.old_stop ≤ last_end 0 (take (length (item_ends e.old) - change.kept_back) (item_ends e.old))
  pub led : last_end 0 (take change.kept_front (item_ends e.old) ++ change.made.items)
      ≡ (last_end 0 (take (length (item_ends e.old) - change.kept_back) (item_ends e.old)) - tokens.old_stop) + tokens.new_stop

-- These tokens are left by an edit: they became those, each at its place or shifted. So many are
-- before the edit, and the others begin after it.
pub record AreLeft (s : Shift) (old made : List Piece) (before : ℕ) : Type 0 where
  pub few : before ≤ length old
  pub made_are : made ≡ map (shifted_piece s) old
  pub in_front : All (λ p. piece_end p ≤ s.start) (take before old)
  pub after : All (λ p. s.old_stop ≤ p.start) (drop before old)

-- The shift of an edit of a text: its places, and how many line ends it takes out and puts in.
pub record IsShiftOf (e : Edit) (s : Shift) : Type 0 where
  pub start_is : s.start ≡ e.start
  pub old_stop_is : s.old_stop ≡ e.old_stop
  pub new_stop_is : s.new_stop ≡ e.new_stop
  pub old_lines_are : s.old_lines ≡ lines_between e.old e.start e.old_stop
  pub new_lines_are : s.new_lines ≡ lines_between e.text e.start e.new_stop

-- The tokens that an edit of them doesn't replace are left by the edit of the text: those in front
-- of it and those after it became these, each at its place or shifted, and between them are those
-- that it makes.
pub record LeavesAround (s : Shift) (old new made : List Piece) (edit : TokenEdit) : Type 0 where
  pub in_front : All (λ p. piece_end p ≤ s.start) (take edit.start old)
  pub after : All (λ p. s.old_stop ≤ p.start) (drop edit.old_stop old)
  pub tokens : new ≡ map (shifted_piece s) (take edit.start old) ++ (made ++ map (shifted_piece s) (drop edit.old_stop old))

-- An edit of a text leaves all its tokens, and each is spelled as before. So many are before the
-- edit.
pub record AreShifted (e : Edit) (s : Shift) (before : ℕ) : Type 0 where
  pub by : IsShiftOf e s
  pub spelled : spellings e.text ≡ spellings e.old
  pub items : item_ends e.text ≡ item_ends e.old
  pub left : AreLeft s (tokens_of e.old) (tokens_of e.text) before
  -- so no item is fresh
  pub none_fresh : fresh_items_of e ≡ []

-- The tokens that an edit replaces are spelled as before, and it leaves them: so many, and some of
-- them, are before the edit.
pub record AreLeftFrom (e : Edit) (same : Bool) (from : ℕ) (replaced made : List Piece) (t : Shifted) : Type 0 where
  pub by : IsShiftOf e t.by
  pub alike : same ≡ true
  pub count : ℕ
  pub before : t.before ≡ from + count
  pub left : AreLeft t.by replaced made count
