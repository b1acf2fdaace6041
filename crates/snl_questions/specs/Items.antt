-- The items of a text, by their tokens (xs): where one of them is, and where one of its tokens is.
use Rattle.std.specs.Prelude.{ℕ, ◌-◌, List, length, slice_get, Option, option_and_then, option_map}
use Rattle.snl_cut.specs.Cut.{members}
use Rattle.snl_lex.specs.declared.piece.Piece.{Piece}
use Rattle.snl_lex.specs.Pieces.{piece_end}
use Rattle.snl_tables.specs.declared.rows.Span.{Span}
use Rattle.snl_questions.specs.declared.tokens.item_tokens.ItemTokens.{ItemTokens}

-- The tokens of each item.
abbrev pub tokens_by_item : ItemTokens → List (List Piece)
tokens_by_item t = members t.tokens.now 0 t.ends.now

abbrev pub span_of : Piece → Span
span_of token = record { start = token.start; len = token.len }

-- The span of token n of item i.
abbrev pub span_at : List (List Piece) → ℕ → ℕ → Option Span
span_at xs i n = option_and_then (λ own. option_map span_of (slice_get own n)) (slice_get xs i)

-- Where item i begins, and where it ends.
abbrev pub start_of : List (List Piece) → ℕ → Option ℕ
start_of xs i = option_and_then (λ own. option_map (λ token. token.start) (slice_get own 0))
    (slice_get xs i)

abbrev pub stop_of : List (List Piece) → ℕ → Option ℕ
stop_of xs i = option_and_then (λ own. option_map piece_end (slice_get own (length own - 1)))
    (slice_get xs i)
