-- An edit under way: what is known of it, its parts by their names, and what it makes.
use Rattle.std.specs.Prelude.{◌≡◌, ℕ, List, length}
use Rattle.snl_lex.specs.declared.line_shift.LineShift.{LineShift}
use Rattle.snl_lex.specs.declared.shift.Shift.{Shift}
use Rattle.snl_items.specs.declared.item_list.ItemChange.{ItemChange}
use Rattle.snl_items.specs.Changes.{IsShiftOf}
use Rattle.snl_lex.specs.LineList.{IsLineList}
use Rattle.snl_kept.specs.declared.editing.Editing.{Editing}
use Rattle.snl_kept.specs.declared.entries.Entry.{Entry}
use Rattle.snl_kept.specs.Diagnostics.{diagnostics_of}
use Rattle.snl_items.specs.Fresh.{fresh_items_of, fresh_pieces_of}
use Rattle.snl_lex.specs.Edit.{Edit, edit_of}
use Rattle.snl_kept.specs.ItemPlan.{IsOneItem}
use Rattle.snl_kept.specs.Kept.{IsListed}
use Rattle.snl_kept.specs.Planned.{AreEntriesMade, IsChanged}
use Rattle.snl_kept.specs.Shifted.{ShiftsLines}
use Rattle.snl_kept.specs.Tables.{tables_in}

abbrev pub old_in : Editing → List ℕ
old_in e = e.edit.now.old.now

abbrev pub text_in : Editing → List ℕ
text_in e = e.edit.now.text.now

abbrev pub edit_in : Editing → Edit
edit_in e = edit_of e.edit.now

abbrev pub items_in : Editing → ItemChange
items_in e = e.changes.now.items

-- What is known of it: the lists, the tables and the diagnostics are those of the old text, the
-- changes are those that the edit makes, and the lines are those of the new text.
pub record IsUnderWay (e : Editing) : Type 0 where
  pub lists : IsListed (old_in e) e.lists.now
  pub tables : e.tables.now ≡ tables_in (old_in e)
  pub found : e.found.now ≡ diagnostics_of (old_in e)
  pub changes : IsChanged (edit_in e) e.changes.now
  pub lines : IsLineList (text_in e) e.lines.now
  pub lexed : e.lexed ≡ fresh_pieces_of (edit_in e)

-- What is kept of the items that the edit makes.
abbrev pub AreEntriesIn : Editing → List Entry → Type 0
AreEntriesIn e made = AreEntriesMade (old_in e) (text_in e) (items_in e).kept_front made (items_in e).kept_back

-- How many items are parsed.
abbrev pub parsed_in : Editing → ℕ
parsed_in e = length (fresh_items_of (edit_in e))

-- The edit as a shift, and how it shifts lines.
abbrev pub IsShiftIn : Editing → Shift → Type 0
IsShiftIn e s = IsShiftOf (edit_in e) s

abbrev pub ShiftsLinesIn : Editing → LineShift → Type 0
ShiftsLinesIn e t = ShiftsLines (old_in e) (text_in e) t

-- The edit makes one item in the place of one, whose first two tokens are before it.
abbrev pub MakesOneItem : Editing → Type 0
MakesOneItem e = IsOneItem (old_in e) e.changes.now
