-- What is at an offset of a text.
use Rattle.std.specs.Prelude.{◌≡◌, ℕ, List, Some, true, option_and_then, slice_get}
use Rattle.snl_lex.specs.declared.piece.Piece.{Piece}
use Rattle.snl_kept.specs.Program.{item_tokens}
use Rattle.snl_questions.specs.Tokens.{has_byte}

-- This is token n of item i of a text, and it has the byte at the offset.
pub record HasTokenAt (text : List ℕ) (i n offset : ℕ) (token : Piece) : Type 0 where
  pub there : option_and_then (λ own. slice_get own n) (slice_get (item_tokens text) i) ≡ Some token
  pub byte : has_byte offset token ≡ true
