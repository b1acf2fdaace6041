-- What is read of a text, as what it is in the text.
use Rattle.std.specs.Prelude.{◌≡◌, ℕ, List, All, length, map, Option, option_copied}
use Rattle.snl_lex.specs.Pieces.{LiesIn, tokens_of}
use Rattle.snl_grammar.specs.declared.tree.item.Item.{Item}
use Rattle.snl_item_check.specs.Items.{IsCutUp, ProgramItem, program_items}
use Rattle.snl_reading.specs.declared.items.ReadItem.{ReadItem}

-- The tree of an item. A faulty one has none.
abbrev pub tree_read : ReadItem → Option Item
tree_read x = option_copied x.tree

abbrev pub item_read : ReadItem → ProgramItem
item_read x = record { tokens = x.tokens.now; tree = tree_read x }

abbrev pub items_read : List ReadItem → List ProgramItem
items_read xs = map item_read xs

-- The trees of items.
abbrev pub trees_of_items : List ProgramItem → List (Option Item)
trees_of_items xs = map (λ x. x.tree) xs

-- Each token of the item lies in the text.
abbrev pub ReadFrom : List ℕ → ReadItem → Type 0
ReadFrom text x = All (LiesIn text) x.tokens.now

-- The items are those of the text whose tokens end, item by item, at these numbers.
pub record AreItems (text : List ℕ) (ends : List ℕ) (xs : List ProgramItem) : Type 0 where
  pub cut : IsCutUp text (tokens_of text) ends (length xs)
  pub along : program_items (tokens_of text) ends (trees_of_items xs) ≡ xs
