-- Parts of a text and line ends in them, and the tests of markers.
use Rattle.std.proofs.Common.{◌≡◌, ℕ, Bool, true, false, ◌&&◌, List, is_some, refl, ap, ◌∙◌}
use Rattle.snl_lex.specs.declared.piece.Piece.{Piece}
use Rattle.snl_lex.specs.Lines.{has_line_between, marker_file, names_file}
use Rattle.snl_lex.specs.LineList.{numbers, names}
use Rattle.snl_lex.specs.Pieces.{piece_end, bytes_at}
use Rattle.snl_lex.specs.LineLaws.{sets_is}

-- ---- tests of pieces

and_swap : (a b c : Bool) → ((a && b) && c) ≡ ((a && c) && b)
and_swap true true true = refl
and_swap true true false = refl
and_swap true false true = refl
and_swap true false false = refl
and_swap false b c = refl

pub names_is : (text : List ℕ) (o : ℕ) (p : Piece) → names_file text o p ≡ (names text p && has_line_between text (piece_end p) o)
unfolding names_file
names_is text o p =
    ap (λ (b : Bool). b && is_some (marker_file (bytes_at text p))) (sets_is text o p)
    ∙ and_swap (numbers text p) (has_line_between text (piece_end p) o) (is_some (marker_file (bytes_at text p)))
