-- An edit that makes one item in the place of one: what is known of it, and its parts by their
-- names.
use Rattle.std.specs.Prelude.{ℕ, List}
use Rattle.snl_summary.specs.declared.summary.Outline.{Outline}
use Rattle.snl_kept.specs.declared.ways.one_item.replaced.OneItem.{OneItem}
use Rattle.snl_lex.specs.Edit.{Edit}
use Rattle.snl_kept.specs.Editing.{IsShiftIn, IsUnderWay, MakesOneItem, ShiftsLinesIn, edit_in, items_in, old_in, text_in}
use Rattle.snl_kept.specs.ItemPlan.{AreOwnTokens}
use Rattle.snl_kept.specs.ReplacedItem.{own_head}

abbrev pub old_of : OneItem → List ℕ
old_of o = old_in o.editing

abbrev pub text_of : OneItem → List ℕ
text_of o = text_in o.editing

abbrev pub edit_by : OneItem → Edit
edit_by o = edit_in o.editing

-- The number of the item.
abbrev pub item_of : OneItem → ℕ
item_of o = (items_in o.editing).kept_front

-- How many of its tokens are before those that the edit replaces.
abbrev pub head_of : OneItem → ℕ
head_of o = own_head (old_of o) o.editing.changes.now

-- What the items of the old text say to each other.
abbrev pub outlines_by : OneItem → List Outline
outlines_by o = o.editing.lists.now.links.outlines

-- What is known of it: how it shifts lines, and which are the tokens of the item.
pub record IsOneItemEdit (o : OneItem) : Type 0 where
  pub editing : IsUnderWay o.editing
  pub by : IsShiftIn o.editing o.shift.by
  pub lines : ShiftsLinesIn o.editing o.shift
  pub one : MakesOneItem o.editing
  pub own : AreOwnTokens (old_of o) (text_of o) (item_of o) o.own.now
