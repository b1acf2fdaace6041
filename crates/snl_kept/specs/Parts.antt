-- The items of a text as the code looks at them: the number of an item's first token, that of the
-- token after it, and what is kept of the item.
use Rattle.std.specs.Prelude.{◌≡◌, ℕ, ◌-◌, ◌<◌, ◌≤◌, List, length, take, drop, map, Option, option_copied}
use Rattle.snl_lex.specs.declared.piece.Class.{Class}
use Rattle.snl_lex.specs.declared.piece.Piece.{Piece}
use Rattle.snl_lex.specs.PieceList.{spelled}
use Rattle.snl_grammar.specs.Outcome.{parsed_in, sound_tree}
use Rattle.snl_grammar.specs.declared.tree.item.Item.{Item}
use Rattle.snl_summary.specs.declared.summary.ItemKind.{ItemKind}
use Rattle.snl_summary.specs.Summaries.{kind_of, summary_in}
pub use Rattle.snl_item_check.specs.Items.{EndsWithin}
use Rattle.snl_kept.specs.declared.found.program.Part.{Part}
use Rattle.snl_kept.specs.declared.found.seen.SeenItems.{SeenItems}
use Rattle.snl_kept.specs.Entries.{entry_by}
use Rattle.snl_kept.specs.Program.{ProgramItem}

-- The tokens from one number up to another.
abbrev pub tokens_between : List Piece → ℕ → ℕ → List Piece
tokens_between tokens start stop = take (stop - start) (drop start tokens)

abbrev pub tokens_of_part : List Piece → Part → List Piece
tokens_of_part tokens part = tokens_between tokens part.start part.stop

-- The same as they are spelled.
abbrev pub spelled_part : List ℕ → List Piece → Part → List (Class × List ℕ)
spelled_part text tokens part = spelled text (tokens_of_part tokens part)

abbrev pub tree_of_part : Part → Option Item
tree_of_part part = sound_tree part.entry.now.parsed

abbrev pub kind_of_part : Part → ItemKind
kind_of_part part = kind_of (tree_of_part part)

-- The lists have the tree and the kind of each of these parts.
pub record AreSeen (parts : List Part) (seen : SeenItems) : Type 0 where
  pub trees : map option_copied seen.trees.items ≡ map tree_of_part parts
  pub kinds : seen.kinds.now ≡ map kind_of_part parts

-- The part is some of these tokens, and what is kept of it is what these say.
pub record IsPart (text : List ℕ) (tokens : List Piece) (part : Part) : Type 0 where
  pub some : part.start < part.stop
  pub inside : part.stop ≤ length tokens
  pub entry : part.entry.now ≡ entry_by (spelled_part text tokens part)
  pub parsed : part.entry.now.parsed ≡ parsed_in text (tokens_of_part tokens part)
  pub summary : part.entry.now.summary ≡ summary_in text (tokens_of_part tokens part) (tree_of_part part)

-- The item that a part of the tokens is.
abbrev pub item_of_part : List Piece → Part → ProgramItem
item_of_part tokens part = record { tokens = tokens_of_part tokens part; tree = tree_of_part part }
