-- What is kept of a text: that the text alone defines each part of it.
use Rattle.std.specs.Prelude.{◌≡◌, ℕ, ◌+◌, ◌≤◌, List, vec_capacity, vec_len}
use Rattle.snl_lex.specs.LineList.{IsLineList}
use Rattle.snl_lex.specs.PieceList.{piece_ends, piece_kinds}
use Rattle.snl_lex.specs.Shift.{marker_count}
use Rattle.snl_items.specs.Items.{item_ends, marks_of}
use Rattle.snl_kept.specs.declared.kept.Kept.{Kept}
use Rattle.snl_kept.specs.declared.lists.Lists.{Lists}
use Rattle.snl_kept.specs.declared.plan.ItemsPlan.{ItemsPlan}
use Rattle.snl_kept.specs.declared.plan.Changes.{Changes}
use Rattle.snl_kept.specs.Checks.{checks_of, links_in}
use Rattle.snl_kept.specs.Diagnostics.{diagnostics_of}
use Rattle.snl_kept.specs.Entries.{entries_of}
use Rattle.snl_kept.specs.Tables.{tables_in}
use Rattle.snl_kept.specs.Warnings.{warns_in}

-- The lists of a text: its pieces, its lines, the marks of its tokens, its items.
pub record IsListed (text : List ℕ) (l : Lists) : Type 0 where
  -- where the pieces end, their classes, and how many are line markers
  pub ends : l.pieces.ends.items ≡ piece_ends text
  pub kinds : l.pieces.kinds.items ≡ piece_kinds text
  pub markers : l.pieces.markers ≡ marker_count text
  -- where the lines end, and the line markers that count
  pub lines : IsLineList text l.lines
  -- what each token is to the cut into items, and where the items end
  pub marks : l.items.marks.items ≡ marks_of text
  pub items : l.items.ends.items ≡ item_ends text
  -- what is kept of each item
  pub entries : l.entries.values ≡ entries_of text
  -- what names mean among the items, and what the check of each item gave
  pub links : l.links ≡ links_in text
  pub checks : l.checks.values ≡ checks_of text
  -- whether warnings are shown
  pub warns : l.warns ≡ warns_in text

-- The lists of places alone: those of the pieces, the lines, the tokens and the items.
pub record ArePlaces (text : List ℕ) (l : Lists) : Type 0 where
  pub ends : l.pieces.ends.items ≡ piece_ends text
  pub kinds : l.pieces.kinds.items ≡ piece_kinds text
  pub markers : l.pieces.markers ≡ marker_count text
  pub lines : IsLineList text l.lines
  pub marks : l.items.marks.items ≡ marks_of text
  pub items : l.items.ends.items ≡ item_ends text

-- The lists of what is kept of each item.
pub record AreItems (text : List ℕ) (l : Lists) : Type 0 where
  pub entries : l.entries.values ≡ entries_of text
  pub links : l.links ≡ links_in text
  pub checks : l.checks.values ≡ checks_of text
  pub warns : l.warns ≡ warns_in text

-- The lists have the same places.
pub record SamePlaces (l m : Lists) : Type 0 where
  pub pieces : m.pieces ≡ l.pieces
  pub lines : m.lines ≡ l.lines
  pub items : m.items ≡ l.items

-- The lists have the same of each item.
pub record SameItems (l m : Lists) : Type 0 where
  pub entries : m.entries ≡ l.entries
  pub links : m.links ≡ l.links
  pub checks : m.checks ≡ l.checks
  pub warns : m.warns ≡ l.warns

-- What is kept of a text: its lists, its diagnostics and its tables.
pub record IsKept (text : List ℕ) (k : Kept) : Type 0 where
  pub lists : IsListed text k.lists
  pub found : k.found.items ≡ diagnostics_of text
  pub tables : k.tables ≡ tables_in text

-- Lists have the same elements, whatever room each has.
pub record SameLists (l m : Lists) : Type 0 where
  pub ends : m.pieces.ends.items ≡ l.pieces.ends.items
  pub kinds : m.pieces.kinds.items ≡ l.pieces.kinds.items
  pub markers : m.pieces.markers ≡ l.pieces.markers
  pub lines : m.lines ≡ l.lines
  pub marks : m.items.marks.items ≡ l.items.marks.items
  pub items : m.items.ends.items ≡ l.items.ends.items
  pub entries : m.entries.values ≡ l.entries.values
  pub links : m.links ≡ l.links
  pub checks : m.checks.values ≡ l.checks.values
  pub warns : m.warns ≡ l.warns

-- There is room for the places that an edit makes.
pub record HasRoomForPlaces (l : Lists) (c : Changes) : Type 0 where
  pub ends : vec_len l.pieces.ends + vec_len c.pieces.list.ends ≤ vec_capacity l.pieces.ends
  pub kinds : vec_len l.pieces.kinds + vec_len c.pieces.list.ends ≤ vec_capacity l.pieces.kinds
  pub marks : vec_len l.items.marks + vec_len c.tokens.marks ≤ vec_capacity l.items.marks
  pub items : vec_len l.items.ends + vec_len c.items.made ≤ vec_capacity l.items.ends

-- There is room for those of the tokens and the items alone.
pub record HasRoomForTokens (l : Lists) (c : Changes) : Type 0 where
  pub marks : vec_len l.items.marks + vec_len c.tokens.marks ≤ vec_capacity l.items.marks
  pub items : vec_len l.items.ends + vec_len c.items.made ≤ vec_capacity l.items.ends

-- There is room for what is kept of the items that it makes, and for their checks.
pub record HasRoomForItems (l : Lists) (r : ItemsPlan) : Type 0 where
  pub entries : vec_len r.made ≤ l.entries.room
  pub checks : vec_len r.kept.checks.vacant ≤ l.checks.room

-- There is room for both.
pub record HasRoomFor (l : Lists) (c : Changes) (r : ItemsPlan) : Type 0 where
  pub places : HasRoomForPlaces l c
  pub items : HasRoomForItems l r
