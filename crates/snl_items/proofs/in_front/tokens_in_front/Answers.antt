use Rattle.std.proofs.Common.{◌≡◌, sym, subst, ◌∙◌, arith}
use Rattle.snl_cut.specs.Cut.{Rises, ends_of}
use Rattle.snl_lex.specs.PieceList.{piece_ends}
use Rattle.snl_lex.specs.Pieces.{piece_length}
use Rattle.snl_items.proofs.InFront.{begin_behind, begin_count, begin_in_front}
use Rattle.snl_items.proofs.in_front.tokens_in_front.Goals as goal

pub returns-clause-count : goal.returns-clause-count
returns-clause-count c = λ text ends kinds.
    let cut : piece_ends text ≡ ends_of piece_length text = c.one_cut.ensures.only text (piece_ends text) (c.text_in_pieces.ensures.cut text) in
    let rises : Rises 0 (piece_ends text) = subst (Rises 0) (sym cut) (c.ends_in_order.ensures.rise text) in
    begin_count text c.deref.result.now c.deref-2.result.now c.args.place c.ends_before-before.result c.min-count.result c.count_tokens.result
    (c.deref.ensures.value ∙ ends) (c.deref-2.ensures.value ∙ kinds) rises (c.pieces_as_listed.ensures text) c.ends_before-before.ensures.count
    (omega (arith, c.min-count.ensures, c.len.ensures, c.deref-2.ensures.len)) c.count_tokens.ensures c.requires.some

pub returns-clause-front : goal.returns-clause-front
returns-clause-front c = λ text ends kinds.
    let cut : piece_ends text ≡ ends_of piece_length text = c.one_cut.ensures.only text (piece_ends text) (c.text_in_pieces.ensures.cut text) in
    let rises : Rises 0 (piece_ends text) = subst (Rises 0) (sym cut) (c.ends_in_order.ensures.rise text) in
    begin_in_front text c.deref.result.now c.deref-2.result.now c.args.place c.ends_before-before.result c.min-count.result c.count_tokens.result
    (c.deref.ensures.value ∙ ends) (c.deref-2.ensures.value ∙ kinds) rises (c.pieces_as_listed.ensures text) c.ends_before-before.ensures.count
    (omega (arith, c.min-count.ensures, c.len.ensures, c.deref-2.ensures.len)) c.count_tokens.ensures c.requires.some

pub returns-clause-back : goal.returns-clause-back
returns-clause-back c = λ text ends kinds.
    let cut : piece_ends text ≡ ends_of piece_length text = c.one_cut.ensures.only text (piece_ends text) (c.text_in_pieces.ensures.cut text) in
    let rises : Rises 0 (piece_ends text) = subst (Rises 0) (sym cut) (c.ends_in_order.ensures.rise text) in
    begin_behind text c.deref.result.now c.deref-2.result.now c.args.place c.ends_before-before.result c.min-count.result c.count_tokens.result
    (c.deref.ensures.value ∙ ends) (c.deref-2.ensures.value ∙ kinds) rises (c.pieces_as_listed.ensures text) c.ends_before-before.ensures.count
    (omega (arith, c.min-count.ensures, c.len.ensures, c.deref-2.ensures.len)) c.count_tokens.ensures
