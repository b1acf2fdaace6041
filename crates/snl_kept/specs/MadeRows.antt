-- What the change of the rows goes by, after an edit inside one item.
use Rattle.std.specs.Prelude.{◌≡◌, ℕ, ◌<◌, All, List, length, slice_get, slice_set, Option, Some}
use Rattle.snl_lex.specs.declared.line_shift.LineShift.{LineShift}
use Rattle.snl_lex.specs.declared.piece.Piece.{Piece}
use Rattle.snl_lex.specs.LineShift.{moved_line}
use Rattle.snl_lex.specs.PieceList.{spelled}
use Rattle.snl_lex.specs.Pieces.{LiesIn}
use Rattle.snl_item_check.specs.declared.findings.Checked.{Checked}
use Rattle.snl_moved.specs.Moved.{ReplacesOne}
use Rattle.snl_moved.specs.Spans.{AreRead}
use Rattle.snl_kept.specs.declared.entries.Entry.{Entry}
use Rattle.snl_kept.specs.declared.lists.Lists.{Lists}
use Rattle.snl_kept.specs.declared.ways.one_item.replaced.OneItem.{OneItem}
use Rattle.snl_kept.specs.Checks.{check_by, outlines_in}
use Rattle.snl_kept.specs.Entries.{entries_of, entry_by}
use Rattle.snl_kept.specs.OwnFindings.{IsOwnCheck}
use Rattle.snl_kept.specs.OneItem.{item_of, old_of, outlines_by, text_of}
use Rattle.snl_kept.specs.Program.{items_of, program_item}

-- Item i is in the place of another, and these are its tokens.
pub record IsInPlace (old text : List ℕ) (i : ℕ) (own : List Piece) : Type 0 where
  pub shift : LineShift
  pub some_before : 0 < shift.by.start
  pub read : AreRead old (items_of old)
  pub one : ReplacesOne old text shift.by (moved_line shift) (items_of old) (items_of text) i
  pub got : slice_get (items_of text) i ≡ Some (program_item text own)

-- What is kept of the items of the new text is what is kept of those of the old one, with this in
-- the place of item i; and they say to each other what they said.
pub record AreItemsAfter (old text : List ℕ) (l : Lists) (i : ℕ) (e : Entry) : Type 0 where
  pub there : i < length l.entries.values
  pub entries : entries_of text ≡ slice_set l.entries.values i e
  pub outlines_were : l.links.outlines ≡ outlines_in old
  pub outlines_are : l.links.outlines ≡ outlines_in text

-- The item that is made and its entry are those of the new text, and this is a check of it.
pub record IsOwnState (o : OneItem) (e : Entry) (c : Option Checked) : Type 0 where
  pub within : All (LiesIn (text_of o)) o.own.now.is.items
  pub entry : e ≡ entry_by (spelled (text_of o) o.own.now.is.items)
  pub check : IsOwnCheck (text_of o) o.own.now.is.items c

-- The item that is made, its entry and its check are those of the new text, and all say to each
-- other what they said.
pub record IsOwnMade (o : OneItem) (e : Entry) (c : Option Checked) : Type 0 where
  pub within : All (LiesIn (text_of o)) o.own.now.is.items
  pub items : AreItemsAfter (old_of o) (text_of o) o.editing.lists.now (item_of o) e
  pub place : IsInPlace (old_of o) (text_of o) (item_of o) o.own.now.is.items
  pub entry : e ≡ entry_by (spelled (text_of o) o.own.now.is.items)
  pub check : c ≡ check_by (outlines_by o) (item_of o) (spelled (text_of o) o.own.now.is.items)
