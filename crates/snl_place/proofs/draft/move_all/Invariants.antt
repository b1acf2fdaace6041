use Rattle.std.proofs.Common.{◌≡◌, ◌++◌, take, drop}
use Rattle.snl_lists.specs.Moves.{moved}
use Rattle.snl_place.proofs.draft.move_all.Given as goal

abbrev pub invariant-loop-offset : goal.invariant-loop-offset
invariant-loop-offset l =
    l.offset-items
    ≡ moved l.old_stop l.new_stop (take l.offset-index l.fn.offsets)
    ++ drop l.offset-index l.fn.offsets
