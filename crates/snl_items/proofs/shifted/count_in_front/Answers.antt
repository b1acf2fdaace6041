use Rattle.std.proofs.Common.{◌≤◌, arith}
use Rattle.std.proofs.lemmas.List.Elements.{All-more}
use Rattle.snl_lex.specs.Pieces.{piece_end}
use Rattle.snl_items.proofs.shifted.count_in_front.Goals as goal

pub loop-number-preserved : goal.loop-number-preserved
loop-number-preserved c =
    All-more (λ p. piece_end p ≤ c.args.place) c.args.tokens.now c.loop-number.number _ (omega arith) c.loop-number.invariant c.if-place-token.false
