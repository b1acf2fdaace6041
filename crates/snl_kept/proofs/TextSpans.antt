-- The items of a text as they are read: their tokens lie in it, each has a byte, and the trees are
-- those of their tokens.
use Rattle.std.proofs.Common.{◌≡◌, ℕ, zero, suc, ◌-◌, List, [], ◌∷◌, All, drop, map, Some}
use Rattle.std.proofs.lemmas.List.Elements.{All-drop, All-filter, All-nil, All-take}
use Rattle.snl_cut.specs.Cut.{members}
use Rattle.snl_lex.specs.declared.piece.Piece.{Piece}
use Rattle.snl_lex.specs.Pieces.{LiesIn, is_token, pieces_of, tokens_of}
use Rattle.snl_grammar.specs.declared.tree.item.Item.{Item}
use Rattle.snl_grammar.specs.Parsing.{kinds_in}
use Rattle.snl_grammar.specs.Reading.Items.{item_of}
use Rattle.snl_summary.specs.Summaries.Tokens.{IsSource}
use Rattle.snl_item_check.specs.Items as items
use Rattle.snl_moved.specs.Spans.{AreRead}
use Rattle.snl_items.specs.Items.{item_ends}
use Rattle.snl_kept.specs.Program.{item_tokens, items_of, program_item}
use Rattle.snl_kept.specs.TokenLaws.{read_tree}

-- what holds of each token holds of each of an item
module _ (text : List ℕ) (P : Piece → Type 0) (tokens : List Piece) (each : All P tokens) where
  in_item : (from : ℕ) (ends : List ℕ) (i : ℕ) → All P (items.tokens_in (map (program_item text) (members tokens from ends)) i)
  in_item from [] i = All-nil P
  in_item from (e ∷ es) zero = All-take P (e - from) (drop from tokens) (All-drop P from tokens each)
  in_item from (e ∷ es) (suc i) = in_item e es i

read_trees : (text : List ℕ) (ms : List (List Piece)) (i : ℕ) (t : Item) → items.tree_in (map (program_item text) ms) i ≡ Some t → item_of (kinds_in text (items.tokens_in (map (program_item text) ms) i)) ≡ Some t
read_trees text [] i t is = absurd cc
read_trees text (m ∷ ms) zero t is = read_tree text m t is
read_trees text (m ∷ ms) (suc i) t is = read_trees text ms i t is

module _ (text : List ℕ) (inside : All (LiesIn text) (pieces_of text)) where
  each_item : (i : ℕ) → All (LiesIn text) (items.tokens_in (items_of text) i)
  unfolding item_tokens
  each_item = in_item text (LiesIn text) (tokens_of text) (All-filter is_token (LiesIn text) (pieces_of text) inside) 0 (item_ends text)

  pub tokens_lie : (i : ℕ) → IsSource text (items.tokens_in (items_of text) i)
  tokens_lie i = λ n d within. (each_item i n d within).1

  pub items_are_read : AreRead text (items_of text)
  items_are_read = record { bytes = λ i n d within. (each_item i n d within).0; trees = read_trees text (item_tokens text) }
