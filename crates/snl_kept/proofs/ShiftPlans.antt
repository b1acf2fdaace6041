-- The pieces that an edit makes, as they are listed.
use Rattle.std.proofs.Common.{◌≡◌, ℕ, ◌^◌, ◌<◌, length, ap, ◌∙◌, arith}
use Rattle.std.specs.Prelude.{vec_len}
use Rattle.std.proofs.lemmas.List.{length-map}
use Rattle.snl_cut.specs.Cut.{after_ticks}
use Rattle.snl_lex.specs.declared.piece_list.PieceChange.{PieceChange}
use Rattle.snl_lex.specs.Edit.{Edit, IsChange, made_pieces}
use Rattle.snl_lex.specs.Pieces.{piece_end}
use Rattle.snl_items.specs.Fresh.{fresh_pieces_of}
use Rattle.snl_kept.proofs.Ticks.{few_told}

-- As many pieces are made as their ends are listed.
pub as_many_ends : (e : Edit) (change : PieceChange) → IsChange e change → length change.list.ends.items ≡ length (made_pieces change)
as_many_ends e change is = ap length is.ends ∙ length-map (made_pieces change) piece_end

-- As many pieces are cut as are fresh, by what a new count tells.
pub cut_fresh : (e : Edit) (change : PieceChange) (told counted begun : ℕ) → IsChange e change → told ≡ counted → counted ≡ after_ticks begun (vec_len change.list.ends) → begun ≡ 0
    → ((e : Edit) (change : PieceChange) → IsChange e change → length (made_pieces change) ≡ fresh_pieces_of e) → told ≡ fresh_pieces_of e
cut_fresh e change told counted begun is told_is ticked new fresh =
    let made : ℕ = vec_len change.list.ends in
    let few : made < 2 ^ 64 = omega (arith, change.list.ends.ok, change.list.ends.small) in
    let many : made ≡ length (made_pieces change) = omega (arith, change.list.ends.ok, as_many_ends e change is) in
    few_told told counted begun made told_is ticked new few ∙ many ∙ fresh e change is
