use Rattle.std.proofs.Common.{◌≡◌, ◌++◌, flat_map, take}
use Rattle.snl_questions.proofs.hovers.bytes.put_all.Given as goal

abbrev pub invariant-loop-piece : goal.invariant-loop-piece
invariant-loop-piece l =
    l.out.items ≡ l.initial.out.items ++ flat_map (λ piece. piece.now) (take l.piece-index l.pieces)
