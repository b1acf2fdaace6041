use Rattle.std.proofs.Common.{◌≡◌, ◌^◌, ◌-◌, ◌<◌, Some, length, slice_get, sym, arith}
use Rattle.std.proofs.lemmas.List.Elements.{recursion_from_All}
use Rattle.snl_facts.specs.Each.{each_got}
use Rattle.snl_lex.specs.declared.piece.Piece.{Piece}
use Rattle.snl_lex.specs.Pieces.{piece_end}
use Rattle.snl_questions.proofs.tokens.item_tokens.ItemTokens.stop_of.Goals as goal

pub overflow_add-result : goal.overflow_add-result
overflow_add-result c =
    let own = c.in_ok-tokens.tokens.now in
    let last = c.in_ok-last.last.now in
    let at : slice_get own (length own - 1) ≡ Some last = sym c.in_ok-last.ensures.value in
    let near : piece_end last < 2 ^ 64 =
    each_got (λ (p : Piece). piece_end p < 2 ^ 64) own (length own - 1) last
    (recursion_from_All (λ (p : Piece). piece_end p < 2 ^ 64) own c.in_ok-tokens.ensures.near) at in
    omega (arith, near)
