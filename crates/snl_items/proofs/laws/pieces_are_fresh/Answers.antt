use Rattle.std.proofs.Common.{◌≡◌, ℕ, List, length, map, sym, ap, ◌∙◌, subst}
use Rattle.std.proofs.lemmas.List.{length-map}
use Rattle.snl_cut.specs.Cut.{IsRecut, ends_of}
use Rattle.snl_lex.specs.Edit.{made_pieces}
use Rattle.snl_lex.specs.PieceList.{piece_ends}
use Rattle.snl_lex.specs.Pieces.{piece_end, piece_length}
use Rattle.snl_items.specs.Fresh.{fresh_pieces_of}
use Rattle.snl_items.proofs.laws.pieces_are_fresh.Goals as goal

pub returns : goal.returns
unfolding fresh_pieces_of
returns c = λ e change is.
    let made : List ℕ = map piece_end (made_pieces change) in
    let old_ends : piece_ends e.old ≡ ends_of piece_length e.old = c.one_cut.ensures.only e.old (piece_ends e.old) (c.text_in_pieces.ensures.cut e.old) in
    let recut : IsRecut piece_length e.old (ends_of piece_length e.old) e.text e.start e.old_stop e.new_stop change.kept_front made change.kept_back =
    subst (λ (es : List ℕ). IsRecut piece_length e.old es e.text e.start e.old_stop e.new_stop change.kept_front made change.kept_back) old_ends is.recut in
    sym (length-map (made_pieces change) piece_end) ∙ ap length (c.made_are_fresh.ensures e.old e.text e.start e.old_stop e.new_stop change.kept_front made change.kept_back recut)
