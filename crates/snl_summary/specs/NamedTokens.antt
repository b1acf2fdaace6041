-- The tokens that the tree of an item names: each is one of the item's tokens.
use Rattle.std.specs.Prelude.{ℕ, ◌<◌, List, [], ◌∷◌, length, map}
use Rattle.std.specs.List.{AllByRecursion}
use Rattle.snl_lex.specs.declared.piece.Piece.{Piece}
use Rattle.snl_grammar.specs.declared.tree.item.Item.{Item}
use Rattle.snl_grammar.specs.declared.tree.item.Item.TheVariants as items
use Rattle.snl_summary.specs.declared.summary.Summary.{Summary}
use Rattle.snl_summary.specs.Summaries.Clauses.{clauses_in_tree}
use Rattle.snl_summary.specs.Summaries.Declares.{declared_in_tree}
use Rattle.snl_walk.specs.Items.{occurrences}
use Rattle.snl_walk.specs.Tokens.{token_bytes}
use Rattle.snl_walk.specs.Uses.{targets}

-- The token that names an item, if it has a name of its own: that of a state set and of a state is
-- the second one.
abbrev pub own_name : Item → List ℕ
own_name (items.Header name parameters) = name ∷ []
own_name (items.SsBegin name) = 1 ∷ []
own_name (items.StateBlock name ms) = 1 ∷ []
own_name _ = []

-- The name of the item, the names that it declares, the variables of its clauses and its targets
-- are at tokens of its own.
pub record NamesItsTokens (text : List ℕ) (tokens : List Piece) (t : Item) : Type 0 where
  pub own : AllByRecursion (λ number. number < length tokens) (own_name t)
  pub declared : AllByRecursion (λ d. d.token < length tokens) (declared_in_tree text tokens t)
  pub variables : AllByRecursion (λ c. c.variable.token < length tokens) (clauses_in_tree text tokens t)
  pub targets : AllByRecursion (λ number. number < length tokens) (targets (occurrences (token_bytes text tokens) t))

-- The tokens of the names of states that a summary has as targets.
abbrev pub target_tokens : Summary → List ℕ
target_tokens s = map (λ m. m.token) s.targets
