use Rattle.std.proofs.Common.{ap, ◌∙◌, filter, List}
use Rattle.snl_lex.specs.declared.piece.Piece.{Piece}
use Rattle.snl_lex.specs.PieceList.{pieces_between}
use Rattle.snl_lex.specs.Pieces.{is_token}
use Rattle.snl_lex.proofs.Listed.{listed_are}
use Rattle.snl_lex.proofs.piece_list.PieceList.tokens_between.Goals as goal

pub returns : goal.returns
returns c = λ text ends kinds.
    let l = c.args.self.now in
    rw c.in_ok-tokens.ensures.items at c.with_listed_tokens.ensures.tokens
    ∙ ap (λ (ps : List Piece). filter is_token (pieces_between ps c.args.from c.args.stop)) (listed_are text l.ends.items l.kinds.items ends kinds)
