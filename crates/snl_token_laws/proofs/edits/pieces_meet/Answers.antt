use Rattle.std.proofs.Common.{◌≡◌, ℕ, List, subst, sym}
use Rattle.snl_cut.specs.Cut.{IsRecut, ends_below, ends_of, fresh_ends}
use Rattle.snl_lex.specs.PieceList.{piece_ends}
use Rattle.snl_lex.specs.Pieces.{piece_length}
use Rattle.snl_token_laws.specs.Recuts.{back_of}
use Rattle.snl_token_laws.proofs.edits.pieces_meet.Goals as goal

pub returns-clause-recut : goal.returns-clause-recut
returns-clause-recut c = λ old text start b e edit.
    let same : piece_ends old ≡ ends_of piece_length old = c.one_cut.ensures.only old (piece_ends old) (c.text_in_pieces.ensures.cut old) in
    let G : List ℕ → Type 0 = λ (ends : List ℕ). IsRecut piece_length old ends text start b e (ends_below start ends) (fresh_ends piece_length old text start b e) (back_of piece_length old text b e) in
    subst G (sym same) (c.edits_have_recuts.ensures old text start b e edit)
