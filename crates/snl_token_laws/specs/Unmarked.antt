-- Ends of lines on which no marker is that sets a line.
use Rattle.std.specs.Prelude.{◌≡◌, ℕ, ◌<◌, true, List, All, length, slice_index}
use Rattle.snl_lex.specs.LineList.{numbers}
use Rattle.snl_lex.specs.Pieces.{piece_end, pieces_of}

-- A line of the text ends at a place, and no marker that sets a line ends there.
pub record IsPlainEnd (text : List ℕ) (place : ℕ) : Type 0 where
  pub inside : place < length text
  pub line_end : slice_index text place ≡ 10
  pub unmarked : All (λ p. numbers text p ≡ true → piece_end p ≡ place → ⊥) (pieces_of text)
