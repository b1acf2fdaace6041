-- The items of a text: its tokens, cut into items, each with its tree; and what each says to the
-- others. Whatever speaks of the items of a text speaks of them by these words.
use Rattle.std.specs.Prelude.{◌≡◌, ℕ, zero, suc, ◌<◌, ◌≤◌, List, [], ◌∷◌, map, length, get_or, slice_get, Option, option_and_then}
use Rattle.std.specs.List.{zip}
use Rattle.std.specs.Option.{option_map_or}
use Rattle.snl_cut.specs.Cut.{members}
use Rattle.snl_lex.specs.declared.piece.Piece.{Piece}
use Rattle.snl_grammar.specs.declared.tree.item.Item.{Item}
use Rattle.snl_summary.specs.declared.summary.Outline.{Outline}
use Rattle.snl_summary.specs.declared.summary.Summary.{Summary}
use Rattle.snl_scope.specs.LinkedItems.{LinkedItems}
use Rattle.snl_summary.specs.Summaries.{kind_of, outline_in, summary_in}
use Rattle.snl_walk.specs.Tokens.{IsSource}

-- An item of a text: its tokens, and its tree, which a faulty one has not.
pub record ProgramItem : Type 0 where
  pub tokens : List Piece
  pub tree : Option Item

-- The items of a text whose tokens end, item by item, at these numbers.
abbrev pub program_items : List Piece → List ℕ → List (Option Item) → List ProgramItem
program_items tokens ends trees = map (λ p. record { tokens = p.0; tree = p.1 }) (zip (members tokens 0 ends) trees)

-- Each of the ends is after the one before it, and none after `to`.
abbrev pub EndsWithin : ℕ → List ℕ → ℕ → Type 0
EndsWithin from [] to = Unit {0}
EndsWithin from (e ∷ es) to = (from < e) × (e ≤ to) × EndsWithin e es to

-- Tokens of a text, cut into items: each token lies in the text, each end is among the tokens, and
-- each item has a tree or is faulty.
pub record IsCutUp (text : List ℕ) (tokens : List Piece) (ends : List ℕ) (count : ℕ) : Type 0 where
  pub source : IsSource text tokens
  pub within : EndsWithin 0 ends (length tokens)
  pub each : count ≡ length ends

-- The number of the first token of the item with a number, where the first item begins at `from`.
abbrev pub start_of : ℕ → List ℕ → ℕ → ℕ
start_of from ends zero = from
start_of from ends (suc i) = get_or ends i 0

-- The tokens of the item with a number; none, where there is no such item.
abbrev pub tokens_in : List ProgramItem → ℕ → List Piece
tokens_in xs item = option_map_or (λ x. x.tokens) (slice_get xs item) []

-- The tree of the item with a number.
abbrev pub tree_in : List ProgramItem → ℕ → Option Item
tree_in xs item = option_and_then (λ x. x.tree) (slice_get xs item)

-- The summary of an item, and those of all.
abbrev pub summary_of_item : List ℕ → ProgramItem → Summary
summary_of_item text x = summary_in text x.tokens x.tree

abbrev pub summaries_of : List ℕ → List ProgramItem → List Summary
summaries_of text xs = map (summary_of_item text) xs

-- What an item says to the others, and what each of the items does.
abbrev pub outline_of_item : List ℕ → ProgramItem → Outline
outline_of_item text x = outline_in text x.tokens x.tree

abbrev pub outlines_of : List ℕ → List ProgramItem → List Outline
outlines_of text xs = map (outline_of_item text) xs

-- What the links of the items are of: what each says to the others, and of what kind it is.
abbrev pub linked_of : List ℕ → List ProgramItem → LinkedItems
linked_of text xs = record { outlines = outlines_of text xs; kinds = map (λ x. kind_of x.tree) xs }
