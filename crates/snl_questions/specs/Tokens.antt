-- The token at a place of a text.
use Rattle.std.specs.Prelude.{◌≡◌, ℕ, zero, suc, ◌-◌, ◌&&◌, List, [], ◌∷◌, Bool, true, false, Option, Some, None, find, if◌then◌else◌, nat_le, nat_lt}
use Rattle.std.specs.List.Sorted.{IsPartitionPoint}
use Rattle.snl_lex.specs.PieceList.{is_token_class}
use Rattle.snl_lex.specs.Pieces.{piece_end, tokens_of}
use Rattle.snl_lex.specs.declared.piece.Class.{Class}
use Rattle.snl_lex.specs.declared.piece.Piece.{Piece}

-- A piece has the byte at an offset.
abbrev pub has_byte : ℕ → Piece → Bool
has_byte offset p = nat_le p.start offset && nat_lt offset (piece_end p)

-- The token that has it.
abbrev pub token_at : List ℕ → ℕ → Option Piece
token_at text offset = find (has_byte offset) (tokens_of text)

-- So many of the ends, the first ones, are at an offset or before it.
abbrev pub IsCount : (offset : ℕ) → (ends : List ℕ) → (number : ℕ) → Type 0
IsCount offset ends number =
    IsPartitionPoint (λ e. nat_le e offset ≡ true) (λ e. nat_le e offset ≡ false) ends number

-- The piece with a number among those that two lists say, the first of which begins at a place, if
-- it is a token.
abbrev pub token_numbered : ℕ → List ℕ → List Class → ℕ → Option Piece
token_numbered from [] kinds number = None
token_numbered from (e ∷ ends) [] number = None
token_numbered from (e ∷ ends) (k ∷ kinds) zero =
    if is_token_class k then Some (record { kind = k; start = from; len = e - from }) else None
token_numbered from (e ∷ ends) (k ∷ kinds) (suc number) = token_numbered e ends kinds number
