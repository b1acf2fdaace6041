-- The items of a text: its tokens, cut into items, and the tree of each.
use Rattle.std.specs.Prelude.{ℕ, if◌then◌else◌, List, map, Option, None}
use Rattle.std.specs.List.{list_any}
use Rattle.snl_cut.specs.Cut.{members}
use Rattle.snl_lex.specs.declared.piece.Piece.{Piece}
use Rattle.snl_lex.specs.Pieces.{tokens_of}
use Rattle.snl_grammar.specs.declared.tree.item.Item.{Item}
use Rattle.snl_grammar.specs.Parsing.{is_bad, kinds_in}
use Rattle.snl_grammar.specs.Reading.Items.{item_of}
use Rattle.snl_items.specs.Items.{item_ends}
pub use Rattle.snl_item_check.specs.Items.{ProgramItem}

-- The tokens of a text, item by item.
unfoldable pub item_tokens : List ℕ → List (List Piece)
item_tokens text = members (tokens_of text) 0 (item_ends text)

-- The tree of an item. An item is faulty if it holds a Bad token, or if the grammar has no tree for
-- its tokens.
abbrev pub tree_in : List ℕ → List Piece → Option Item
tree_in text tokens = if list_any is_bad tokens then None else item_of (kinds_in text tokens)

abbrev pub program_item : List ℕ → List Piece → ProgramItem
program_item text tokens = record { tokens = tokens; tree = tree_in text tokens }

-- The items of a text.
abbrev pub items_of : List ℕ → List ProgramItem
items_of text = map (program_item text) (item_tokens text)
