-- The edits that undo others: the old bytes in the place of the new ones.
use Rattle.std.specs.Prelude.{ℕ, ◌+◌, ◌-◌, ◌<◌, List, [], ◌∷◌, drop, take}
use Rattle.snl_lex.specs.declared.piece.Piece.{Piece}
use Rattle.snl_lex.specs.Pieces.{piece_end}
use Rattle.snl_alike.specs.Edits.{Edit, moved_stop, new_stop}

abbrev pub undone_from : (text : List ℕ) → (base made : ℕ) → List Edit → List Edit
undone_from text base made [] = []
undone_from text base made (e ∷ es) = record {
  start = made + (e.start - base);
  stop = new_stop base made e;
  new = take (e.stop - e.start) (drop e.start text);
} ∷ undone_from text e.stop (new_stop base made e) es

unfoldable pub undone : List ℕ → List Edit → List Edit
undone text es = undone_from text 0 0 es

-- A token at its place after edits.
abbrev pub moved_token : List Edit → Piece → Piece
moved_token es p = record {
  kind = p.kind;
  start = moved_stop es p.start;
  len = moved_stop es (piece_end p) - moved_stop es p.start;
}

-- The edit that undoes one of many, where no edit is empty.
abbrev pub undone_at : (text : List ℕ) → List Edit → Edit → Edit
undone_at text es e = record {
  start = moved_stop es e.start;
  stop = moved_stop es e.stop;
  new = take (e.stop - e.start) (drop e.start text);
}

-- It replaces a byte at least.
abbrev pub HasOldBytes : Edit → Type 0
HasOldBytes e = e.start < e.stop
