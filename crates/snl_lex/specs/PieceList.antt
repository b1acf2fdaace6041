-- The pieces of a text as two lists: where each ends, and its class. What an edit makes of them,
-- and what it keeps.
use Rattle.std.specs.Prelude.{◌≡◌, ℕ, ◌+◌, ◌-◌, ◌≤◌, Bool, true, false, List, [], ◌∷◌, ◌++◌, length, map, take, drop, filter}
use Rattle.snl_cut.specs.Cut.{IsRecut, last_end}
use Rattle.snl_lex.specs.declared.piece.Class.{Class}
use Rattle.snl_lex.specs.declared.piece.Class.TheVariants.{White, Comment, Marker}
use Rattle.snl_lex.specs.declared.piece.Piece.{Piece}
use Rattle.snl_lex.specs.Pieces.{bytes_at, is_token, moved_piece, piece_end, piece_length, pieces_of}

-- Where the pieces of a text end.
abbrev pub piece_ends : List ℕ → List ℕ
piece_ends text = map piece_end (pieces_of text)

-- The classes of the pieces of a text.
abbrev pub piece_kinds : List ℕ → List Class
piece_kinds text = map (λ p. p.kind) (pieces_of text)

-- Pieces of this class are tokens.
abbrev pub is_token_class : Class → Bool
is_token_class kind = elim kind [ White ↦ false | Comment ↦ false | Marker ↦ false | _ ↦ true ]

-- The pieces that two lists say, the first of which begins at a place.
abbrev pub listed_pieces : ℕ → List ℕ → List Class → List Piece
listed_pieces from [] kinds = []
listed_pieces from (e ∷ ends) [] = []
listed_pieces from (e ∷ ends) (k ∷ kinds) = record { kind = k; start = from; len = e - from } ∷ listed_pieces e ends kinds

-- The pieces from one number up to another.
abbrev pub pieces_between : List Piece → ℕ → ℕ → List Piece
pieces_between pieces from stop = take (stop - from) (drop from pieces)

-- A piece as it is spelled: its class and its bytes.
abbrev pub spelling : List ℕ → Piece → Class × List ℕ
spelling text p = (p.kind, bytes_at text p)

-- Pieces as they are spelled, and those of them that are tokens.
abbrev pub spelled : List ℕ → List Piece → List (Class × List ℕ)
spelled text pieces = map (spelling text) pieces

abbrev pub tokens_spelled : List ℕ → List Piece → List (Class × List ℕ)
tokens_spelled text pieces = spelled text (filter is_token pieces)

-- The last pieces of a text, so many.
abbrev pub last_pieces : List ℕ → ℕ → List Piece
last_pieces text back = drop (length (pieces_of text) - back) (pieces_of text)

-- The pieces that an edit makes, after so many that are kept at the front, by the lists of their
-- ends and classes.
abbrev pub relexed_pieces : List ℕ → ℕ → List ℕ → List Class → List Piece
relexed_pieces old front made_ends made_kinds = listed_pieces (last_end 0 (take front (piece_ends old))) made_ends made_kinds

-- An edit keeps so many pieces at the front and so many at the back, and makes those between: these
-- are their ends and classes.
pub record IsRelexed (old : List ℕ) (text : List ℕ) (start : ℕ) (old_stop : ℕ) (new_stop : ℕ) (front : ℕ) (made_ends : List ℕ) (made_kinds : List Class) (back : ℕ) : Type 0 where
  pub order : front + back ≤ length (pieces_of old)
  pub recut : IsRecut piece_length old (piece_ends old) text start old_stop new_stop front made_ends back
  pub ends : made_ends ≡ map piece_end (relexed_pieces old front made_ends made_kinds)
  pub kinds : made_kinds ≡ map (λ p. p.kind) (relexed_pieces old front made_ends made_kinds)
  pub pieces : pieces_of text ≡ (take front (pieces_of old) ++ relexed_pieces old front made_ends made_kinds) ++ map (moved_piece old_stop new_stop) (last_pieces old back)
