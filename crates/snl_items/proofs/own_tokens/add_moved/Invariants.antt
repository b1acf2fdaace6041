use Rattle.std.proofs.Common.{◌≡◌, ◌++◌, map, take}
use Rattle.snl_lex.specs.Pieces.{moved_piece}
use Rattle.snl_items.proofs.own_tokens.add_moved.Given as goal

abbrev pub invariant-loop-piece : goal.invariant-loop-piece
invariant-loop-piece l = l.tokens.items ≡ l.fn.tokens.items ++ map (moved_piece l.old_stop l.new_stop) (take l.piece-index l.moved)
