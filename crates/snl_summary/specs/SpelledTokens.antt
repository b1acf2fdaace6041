-- What the tokens of an item say, by how they are spelled alone: wherever they are, it is the same.
use Rattle.std.specs.Prelude.{ℕ, ◌+◌, List, [], ◌∷◌, length, map, slice_get, Option, Some, None}
use Rattle.std.specs.List.{concat}
use Rattle.snl_lex.specs.declared.piece.Class.{Class}
use Rattle.snl_lex.specs.declared.piece.Piece.{Piece}
use Rattle.snl_grammar.specs.declared.tree.item.Item.{Item}
use Rattle.snl_summary.specs.declared.summary.Summary.{Summary}
use Rattle.snl_summary.specs.Summaries.{summary_in}

abbrev pub bytes_if_spelled : Option (Class × List ℕ) → List ℕ
bytes_if_spelled None = []
bytes_if_spelled (Some token) = token.1

-- The bytes of the token with this number; none, where there is no such token.
abbrev pub bytes_by : List (Class × List ℕ) → ℕ → List ℕ
bytes_by tokens number = bytes_if_spelled (slice_get tokens number)

-- The text of these tokens alone, one after the other, and the tokens as pieces of it.
abbrev pub text_of : List (Class × List ℕ) → List ℕ
text_of tokens = concat (map (λ token. token.1) tokens)

abbrev pub pieces_from : ℕ → List (Class × List ℕ) → List Piece
pieces_from start [] = []
pieces_from start (token ∷ tokens) = record { start = start; len = length token.1; kind = token.0 } ∷ pieces_from (start + length token.1) tokens

-- The summary of an item with these tokens and this tree: that of an item that stands alone.
abbrev pub summary_by : List (Class × List ℕ) → Option Item → Summary
summary_by tokens tree = summary_in (text_of tokens) (pieces_from 0 tokens) tree
