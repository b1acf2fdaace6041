-- What the tokens of an item say, by their numbers in it.
use Rattle.std.specs.Prelude.{ℕ, List, [], take, drop, slice_get, All, Option, Some, None}
use Rattle.snl_lex.specs.declared.piece.Piece.{Piece}
use Rattle.snl_lex.specs.Numbers.{int_value_of}
use Rattle.snl_grammar.specs.Parsing.{LiesIn}
use Rattle.snl_walk.specs.declared.source.Source.{Source}

-- Each token lies in the text.
abbrev pub IsSource : List ℕ → List Piece → Type 0
IsSource text tokens = All (LiesIn text) tokens

-- The bytes of a token.
abbrev pub bytes_of : List ℕ → Piece → List ℕ
bytes_of text piece = take piece.len (drop piece.start text)

abbrev pub bytes_if : List ℕ → Option Piece → List ℕ
bytes_if text None = []
bytes_if text (Some piece) = bytes_of text piece

-- The bytes of the token with this number; none, where there is no such token.
unfoldable pub token_bytes : List ℕ → List Piece → ℕ → List ℕ
token_bytes text tokens number = bytes_if text (slice_get tokens number)

-- The bytes of each token of a source, by the token's number.
abbrev pub bytes_in : Source → ℕ → List ℕ
bytes_in source = token_bytes source.text.now source.tokens.now

-- The value of the integer with this number.
abbrev pub value_at : List ℕ → List Piece → ℕ → Option ℕ
value_at text tokens number = int_value_of (token_bytes text tokens number)
