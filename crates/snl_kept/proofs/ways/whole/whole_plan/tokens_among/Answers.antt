use Rattle.std.proofs.Common.{ℕ, List, filter, length, ap, ap₂, ◌∙◌, arith}
use Rattle.std.proofs.lemmas.List.{length-map}
use Rattle.snl_lex.specs.declared.piece.Class.{Class}
use Rattle.snl_lex.specs.PieceList.{listed_pieces}
use Rattle.snl_lex.specs.Pieces.{is_token, piece_end, pieces_of}
use Rattle.snl_kept.proofs.ways.whole.whole_plan.tokens_among.Goals as goal

pub among-requires-clause-same : goal.among-requires-clause-same
among-requires-clause-same c =
    let text = c.args.edit.now.text.now in
    let l = c.args.pieces.now in
    omega (arith, l.ends.ok, l.kinds.ok, ap length c.requires.ends, ap length c.requires.kinds, length-map (pieces_of text) piece_end, length-map (pieces_of text) (λ p. p.kind))

pub among-requires-clause-few : goal.among-requires-clause-few
among-requires-clause-few c =
    let edit = c.args.edit.now in
    omega (arith, c.args.pieces.now.kinds.ok, ap length c.requires.kinds, c.few_pieces.ensures edit.text.now, edit.short)

pub returns : goal.returns
returns c =
    let text = c.args.edit.now.text.now in
    c.in_ok-tokens.ensures
    ∙ ap₂ (λ (es : List ℕ) (ks : List Class). filter is_token (listed_pieces 0 es ks)) c.requires.ends c.requires.kinds
    ∙ ap (filter is_token) (c.pieces_as_listed.ensures text)
