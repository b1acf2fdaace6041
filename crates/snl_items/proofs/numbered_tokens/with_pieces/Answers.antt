use Rattle.std.proofs.Common.{List, ◌∷◌, [], ◌++◌, rules, take, sym, ap, ◌∙◌}
use Rattle.snl_lex.specs.declared.piece.Piece.{Piece}
use Rattle.snl_items.specs.Places.{pieces_at}
use Rattle.snl_items.proofs.Places.{none_at, piece_more}
use Rattle.snl_items.proofs.numbered_tokens.with_pieces.Goals as goal

pub loop-place-init : goal.loop-place-init
loop-place-init c = record {
  pieces = c.requires.none ∙ sym (none_at c.args.begin c.args.ends.now c.args.kinds.now);
  few = search rules;
  capacity = search rules;
}

pub loop-place-preserved : goal.loop-place-preserved
loop-place-preserved c = record {
  pieces = c.push_reserved.ensures.items
      ∙ ap (λ (l : List Piece). l ++ c.piece_at.result ∷ []) c.loop-place.invariant.pieces
      ∙ ap (λ (p : Piece). pieces_at c.args.begin c.args.ends.now c.args.kinds.now (take c.loop-place.place-index c.args.places.now) ++ p ∷ []) c.piece_at.ensures
      ∙ sym (piece_more c.args.begin c.args.ends.now c.args.kinds.now c.args.places.now c.loop-place.place-index _ c.loop-place-test.true);
  few = search rules;
  capacity = search rules;
}
