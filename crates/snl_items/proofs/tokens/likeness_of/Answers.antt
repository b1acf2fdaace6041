use Rattle.std.proofs.Common.{ℕ, ◌-◌, All, List, filter, map, take, ◌∙◌}
use Rattle.std.proofs.lemmas.List.Elements.{All-same}
use Rattle.snl_lex.specs.declared.piece.Piece.{Piece}
use Rattle.snl_lex.specs.Edit.{made_pieces}
use Rattle.snl_lex.specs.PieceList.{last_pieces, pieces_between}
use Rattle.snl_lex.specs.Pieces.{LiesIn, is_token, moved_piece, pieces_of}
use Rattle.snl_items.proofs.TokenParts.{between_lie, made_lie}
use Rattle.snl_items.proofs.tokens.likeness_of.Goals as goal

pub compared-requires-clause-old : goal.compared-requires-clause-old
compared-requires-clause-old c =
    let edit = c.args.edit.now in
    let ps : List Piece = pieces_of edit.old.now in
    let from : ℕ = c.args.change.now.kept_front in
    let stop : ℕ = c.len.result - c.args.change.now.kept_back in
    All-same (LiesIn edit.old.now) c.deref.result.now (filter is_token (pieces_between ps from stop)) (c.deref.ensures.value ∙ c.in_ok-replaced.ensures edit.old.now c.requires.ends c.requires.kinds)
    (between_lie edit.old.now ps from stop (c.text_in_pieces.ensures.inside edit.old.now))

pub compared-requires-clause-new : goal.compared-requires-clause-new
compared-requires-clause-new c =
    let edit = c.args.edit.now in
    let change = c.args.change.now in
    let lie : All (LiesIn edit.text.now) (filter is_token (made_pieces change)) =
    made_lie edit.text.now (take change.kept_front (pieces_of edit.old.now)) (made_pieces change) (map (moved_piece edit.old_stop edit.new_stop) (last_pieces edit.old.now change.kept_back)) (pieces_of edit.text.now) c.requires.change.pieces
    (c.text_in_pieces.ensures.inside edit.text.now) in
    All-same (LiesIn edit.text.now) c.deref-2.result.now (filter is_token (made_pieces change)) (c.deref-2.ensures.value ∙ c.in_ok-made.ensures) lie
