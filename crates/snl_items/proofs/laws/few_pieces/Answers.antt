use Rattle.std.proofs.Common.{◌≡◌, length, ap, arith}
use Rattle.std.proofs.lemmas.List.{length-map}
use Rattle.snl_cut.specs.Cut.{ends_of}
use Rattle.snl_lex.specs.PieceList.{piece_ends}
use Rattle.snl_lex.specs.Pieces.{piece_end, piece_length, pieces_of}
use Rattle.snl_items.proofs.laws.few_pieces.Goals as goal

pub returns : goal.returns
returns c = λ text.
    let ends : piece_ends text ≡ ends_of piece_length text = c.one_cut.ensures.only text (piece_ends text) (c.text_in_pieces.ensures.cut text) in
    omega (arith, c.ends_in_order.ensures.few text, ap length ends, length-map (pieces_of text) piece_end, length-map (pieces_of text) (λ p. p.kind))
