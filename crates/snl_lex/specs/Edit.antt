-- An edit of a text, and what it makes of the pieces.
use Rattle.std.specs.Prelude.{◌≡◌, ℕ, ◌+◌, ◌-◌, ◌≤◌, List, ◌++◌, drop, length, map, take}
use Rattle.snl_cut.specs.Cut.{IsRecut, last_end}
use Rattle.snl_lex.specs.declared.piece.Piece.{Piece}
use Rattle.snl_lex.specs.declared.piece_list.PieceChange.{PieceChange}
use Rattle.snl_lex.specs.declared.edit.TextEdit.{TextEdit}
use Rattle.snl_lex.specs.PieceList.{last_pieces, listed_pieces, piece_ends}
use Rattle.snl_lex.specs.Pieces.{moved_piece, piece_end, piece_length, pieces_of}

-- It puts the bytes of the new text from `start` up to `new_stop` in the place of those of the old
-- one from `start` up to `old_stop`.
pub record Edit : Type 0 where
  pub old : List ℕ
  pub text : List ℕ
  pub start : ℕ
  pub old_stop : ℕ
  pub new_stop : ℕ

-- The same, by the edit as code holds it.
abbrev pub edit_of : TextEdit → Edit
edit_of e = record { old = e.old.now; text = e.text.now; start = e.start; old_stop = e.old_stop; new_stop = e.new_stop }

-- The text with other bytes in the place of those from `start` up to `stop`.
abbrev pub spliced : (text : List ℕ) (start stop : ℕ) (new : List ℕ) → List ℕ
spliced text start stop new = take start text ++ new ++ drop stop text

-- The edit that makes it.
abbrev pub splice : (text : List ℕ) (start stop : ℕ) (new : List ℕ) → Edit
splice old first stop new = record { old = old; text = spliced old first stop new; start = first; old_stop = stop; new_stop = first + length new }

-- The pieces that an edit makes, as what it makes lists them.
abbrev pub made_pieces : PieceChange → List Piece
made_pieces change = listed_pieces change.made_from change.list.ends.items change.list.kinds.items

-- An edit keeps so many pieces at the front and, from a place of the old text on, so many at the
-- back. It makes those between: their ends and classes are listed.
pub record IsChange (e : Edit) (change : PieceChange) : Type 0 where
  pub order : change.kept_front + change.kept_back ≤ length (pieces_of e.old)
  pub recut : IsRecut piece_length e.old (piece_ends e.old) e.text e.start e.old_stop e.new_stop change.kept_front (map piece_end (made_pieces change)) change.kept_back
  pub pieces : pieces_of e.text ≡ (take change.kept_front (pieces_of e.old) ++ made_pieces change) ++ map (moved_piece e.old_stop e.new_stop) (last_pieces e.old change.kept_back)
  pub from : change.kept_from ≡ last_end 0 (take (length (piece_ends e.old) - change.kept_back) (piece_ends e.old))
  pub ends : change.list.ends.items ≡ map piece_end (made_pieces change)
  pub kinds : change.list.kinds.items ≡ map (λ p. p.kind) (made_pieces change)
