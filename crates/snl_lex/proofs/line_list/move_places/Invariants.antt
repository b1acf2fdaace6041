use Rattle.std.proofs.Common.{◌≡◌, ◌++◌, take, drop}
use Rattle.snl_lists.specs.Moves.{moved}
use Rattle.snl_lex.proofs.line_list.move_places.Given as goal

abbrev pub invariant-loop-place : goal.invariant-loop-place
invariant-loop-place l = l.place-items ≡ moved l.old_stop l.new_stop (take l.place-index l.fn.places) ++ drop l.place-index l.fn.places
