-- What is found in an item goes by its tokens, its tree and its view alone: by whether it is in a
-- state set, by what is known of the names that it uses, and by whether its targets are states.
use Rattle.std.specs.Prelude.{◌≡◌, ℕ, List, map, Some}
use Rattle.std.specs.List.{All}
use Rattle.snl_lex.specs.declared.piece.Piece.{Piece}
use Rattle.snl_grammar.specs.declared.tree.item.Item.{Item}
use Rattle.snl_summary.specs.Summaries.{summary_in}
use Rattle.snl_walk.specs.Tokens.{token_bytes}

-- The tokens have the same bytes, wherever they are in their texts.
abbrev pub SameTokens : List ℕ → List Piece → List ℕ → List Piece → Type 0
SameTokens text tokens moved shifted = (n : ℕ) → token_bytes text tokens n ≡ token_bytes moved shifted n

-- Two accounts of names say the same of each of these.
abbrev pub Agree : {A : Type 0} → (List ℕ → A) → (List ℕ → A) → List (List ℕ) → Type 0
Agree account other names = All (λ name. account name ≡ other name) names

-- The names that an item uses, each once, and the states that it leads to, as its summary has them.
abbrev pub used_names : List ℕ → List Piece → Item → List (List ℕ)
used_names text tokens tree = (summary_in text tokens (Some tree)).uses

abbrev pub target_names : List ℕ → List Piece → Item → List (List ℕ)
target_names text tokens tree = map (λ target. target.name) (summary_in text tokens (Some tree)).targets
