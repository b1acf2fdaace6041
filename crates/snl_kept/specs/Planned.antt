-- What an edit makes of what a session keeps of its text.
use Rattle.std.specs.Prelude.{◌≡◌, ℕ, ◌-◌, ◌≤◌, IfSome, List, ◌++◌, None, Option, Some, length, take, drop}
use Rattle.snl_lex.specs.Edit.{Edit, IsChange}
use Rattle.snl_items.specs.declared.item_list.ItemChange.{ItemChange}
use Rattle.snl_items.specs.Changes.{AreShifted, IsItemChange, IsTokenChange}
use Rattle.snl_lex.specs.declared.line_list.LineList.{LineList}
use Rattle.snl_lex.specs.declared.piece_list.PieceList.{PieceList}
use Rattle.snl_lex.specs.LineList.{IsLineList}
use Rattle.snl_lex.specs.LineShift.{moved_line}
use Rattle.snl_lex.specs.PieceList.{piece_ends, piece_kinds}
use Rattle.snl_lex.specs.Shift.{marker_count}
use Rattle.snl_tables.specs.Moved.{moved_tables}
use Rattle.snl_kept.specs.declared.work.Work.{Work}
use Rattle.snl_kept.specs.declared.entries.Entry.{Entry}
use Rattle.snl_kept.specs.declared.kept.Kept.{Kept}
use Rattle.snl_kept.specs.declared.lists.Lists.{Lists}
use Rattle.snl_kept.specs.declared.plan.Changes.{Changes}
use Rattle.snl_kept.specs.declared.plan.ItemPlan.{ItemPlan}
use Rattle.snl_kept.specs.declared.plan.ItemsPlan.{ItemsPlan}
use Rattle.snl_kept.specs.declared.plan.LinksAndChecks.{LinksAndChecks}
use Rattle.snl_kept.specs.declared.plan.Plan.{Plan}
use Rattle.snl_kept.specs.declared.plan.Plan.TheVariants as plan
use Rattle.snl_kept.specs.declared.plan.WholePlan.{WholePlan}
use Rattle.snl_kept.specs.Cost.{IsCost}
use Rattle.snl_kept.specs.Diagnostics.{diagnostics_of, shown}
use Rattle.snl_kept.specs.Entries.{entries_of}
use Rattle.snl_kept.specs.Kept.{HasRoomFor, HasRoomForItems, HasRoomForPlaces, HasRoomForTokens, IsKept}
use Rattle.snl_kept.specs.NewChecks.{AreChecksMade}
use Rattle.snl_kept.specs.NewLinks.{AreLinks}
use Rattle.snl_kept.specs.Order.{in_order}
use Rattle.snl_kept.specs.OwnRows.{with_row}
use Rattle.snl_kept.specs.Tables.{tables_in}
use Rattle.snl_kept.specs.Warnings.{warns_in}

-- What an edit makes of the pieces, the tokens and the items of a text.
pub record IsChanged (edit : Edit) (c : Changes) : Type 0 where
  pub pieces : IsChange edit c.pieces
  pub tokens : IsTokenChange edit c.tokens
  -- if the edit leaves all tokens, it shifts them
  pub shifted : IfSome c.tokens.shifted (λ t. AreShifted edit t.by t.before)
  pub items : IsItemChange edit c.tokens.edit c.items

-- An edit is to be carried out: what is kept is that of the old text, these are the changes, and
-- these the lines of the new text.
pub record IsBegun (edit : Edit) (k : Kept) (c : Changes) (l : LineList) : Type 0 where
  pub kept : IsKept edit.old k
  pub changes : IsChanged edit c
  pub lines : IsLineList edit.text l

-- What is kept of the items of the new text: so much of the old ones at the front, what was made,
-- and so much of the old ones at the back.
abbrev pub AreEntriesMade : (old text : List ℕ) (front : ℕ) (made : List Entry) (back : ℕ) → Type 0
AreEntriesMade old text front made back =
    entries_of text ≡ take front (entries_of old) ++ (made ++ drop (length (entries_of old) - back) (entries_of old))

-- What becomes of the links, and the checks that are made, where an edit makes so much of the
-- items.
pub record AreLinksAndChecks (edit : Edit) (items : ItemChange) (made : LinksAndChecks) : Type 0 where
  pub links : AreLinks edit.old edit.text made.links
  pub checks : AreChecksMade edit.old edit.text items.kept_front made.checks.vacant.items items.kept_back made.checks.made.items

-- What is made of all that is kept of the items.
pub record IsItemsPlan (edit : Edit) (items : ItemChange) (p : ItemsPlan) : Type 0 where
  pub entries : AreEntriesMade edit.old edit.text items.kept_front p.made.items items.kept_back
  pub kept : AreLinksAndChecks edit items p.kept
  pub warns : p.warns ≡ warns_in edit.text

-- The list of the pieces of a text.
pub record ArePieces (text : List ℕ) (l : PieceList) : Type 0 where
  pub ends : l.ends.items ≡ piece_ends text
  pub kinds : l.kinds.items ≡ piece_kinds text
  pub markers : l.markers ≡ marker_count text

-- What is made anew of a text on the whole way.
pub record IsWholePlan (edit : Edit) (items : ItemChange) (p : WholePlan) : Type 0 where
  pub kept : IsItemsPlan edit items p.items
  pub findings : p.findings.items ≡ in_order (shown edit.text)
  pub tables : p.tables ≡ tables_in edit.text
  pub cost : IsCost edit p.work
  -- if there is a list of the pieces, it is that of the new text
  pub pieces : IfSome p.pieces (ArePieces edit.text)

-- What an edit inside one item makes anew: the rows are shifted, but for this change.
pub record IsItemPlan (edit : Edit) (items : ItemChange) (p : ItemPlan) : Type 0 where
  pub kept : IsItemsPlan edit items p.items
  pub diagnostics : p.diagnostics.items ≡ diagnostics_of edit.text
  pub tables : tables_in edit.text ≡ with_row (moved_tables p.shift.by (moved_line p.shift) (tables_in edit.old)) p.change
  pub cost : IsCost edit p.work

-- A plan is either of the two.
abbrev pub IsPlan : Edit → ItemChange → Plan → Type 0
IsPlan edit items (plan.Item p) = IsItemPlan edit items p
IsPlan edit items (plan.Whole p) = IsWholePlan edit items p

-- There is room for the places that an edit makes, but for those of the pieces where there is a
-- list of these.
abbrev pub HasRoomBeside : Lists → Changes → Option PieceList → Type 0
HasRoomBeside l c None = HasRoomForPlaces l c
HasRoomBeside l c (Some pieces) = HasRoomForTokens l c

-- There is room for what is made anew, where so many diagnostics have room.
pub record HasRoomForAll (l : Lists) (capacity : ℕ) (c : Changes) (p : WholePlan) : Type 0 where
  pub places : HasRoomBeside l c p.pieces
  pub items : HasRoomForItems l p.items
  pub findings : length p.findings.items ≤ capacity

abbrev pub HasRoom : Lists → ℕ → Changes → Plan → Type 0
HasRoom l capacity c (plan.Item p) = HasRoomFor l c p.items
HasRoom l capacity c (plan.Whole p) = HasRoomForAll l capacity c p

abbrev pub work_of : Plan → Work
work_of (plan.Item p) = p.work
work_of (plan.Whole p) = p.work
