-- The class of a piece.
use Rattle.std.specs.Prelude.{◌≡◌, ℕ, List, drop}
use Rattle.snl_lex.specs.declared.piece.Piece.{Piece}
use Rattle.snl_lex.specs.Pieces.{first_piece}

-- A piece has the class and the length of the first piece of what the text has from its beginning
-- on.
pub record HasItsClass (text : List ℕ) (p : Piece) : Type 0 where
  pub kind : p.kind ≡ (first_piece (drop p.start text)).0
  pub len : p.len ≡ (first_piece (drop p.start text)).1
