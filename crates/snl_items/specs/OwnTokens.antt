-- The tokens of one item, by their numbers among all tokens of a text.
use Rattle.std.specs.Prelude.{◌≡◌, ℕ, ◌-◌, List, count_by, drop, length, take}
use Rattle.snl_lex.specs.declared.piece.Class.{Class}
use Rattle.snl_lex.specs.declared.piece.Piece.{Piece}
use Rattle.snl_lex.specs.PieceList.{is_token_class, piece_kinds}
use Rattle.snl_items.specs.declared.tokens.TokenEdit.{TokenEdit}

-- The tokens from one number up to another.
abbrev pub tokens_between : List Piece → ℕ → ℕ → List Piece
tokens_between tokens start stop = take (stop - start) (drop start tokens)

-- How many tokens are among the first pieces of these classes, so many.
abbrev pub tokens_before : List Class → ℕ → ℕ
tokens_before kinds pieces = count_by is_token_class (take pieces kinds)

-- The pieces that an edit keeps at the front and at the back have the tokens that it leaves.
pub record AreCounted (old : List ℕ) (front back : ℕ) (edit : TokenEdit) : Type 0 where
  pub start : tokens_before (piece_kinds old) front ≡ edit.start
  pub stop : tokens_before (piece_kinds old) (length (piece_kinds old) - back) ≡ edit.old_stop
