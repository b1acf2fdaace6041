-- Where tokens are among pieces, and which tokens are at such places.
use Rattle.std.specs.Prelude.{ℕ, suc, ◌-◌, ◌<◌, All, List, [], ◌∷◌, map, take, get_or, if◌then◌else◌}
use Rattle.snl_cut.specs.Cut.{last_end}
use Rattle.snl_lex.specs.declared.piece.Class.{Class}
use Rattle.snl_lex.specs.declared.piece.Class.TheVariants.{White}
use Rattle.snl_lex.specs.declared.piece.Piece.{Piece}
use Rattle.snl_lex.specs.PieceList.{is_token_class}

-- The numbers of those pieces of these classes that are tokens, where the first has this number.
abbrev pub token_places : ℕ → List Class → List ℕ
token_places from [] = []
token_places from (k ∷ kinds) = if is_token_class k then from ∷ token_places (suc from) kinds else token_places (suc from) kinds

-- The piece of a class from one place up to another.
abbrev pub piece_to : Class → ℕ → ℕ → Piece
piece_to kind start end = record { kind = kind; start = start; len = end - start }

-- The piece with a number, by where pieces end and their classes. The first one begins at a place.
abbrev pub piece_with : ℕ → List ℕ → List Class → ℕ → Piece
piece_with begin ends kinds n = piece_to (get_or kinds n White) (last_end begin (take n ends)) (get_or ends n 0)

-- The pieces with these numbers.
unfoldable pub pieces_at : ℕ → List ℕ → List Class → List ℕ → List Piece
pieces_at begin ends kinds places = map (piece_with begin ends kinds) places

-- These are numbers of so many pieces.
abbrev pub AreAmong : ℕ → List ℕ → Type 0
AreAmong count places = All (λ n. n < count) places
