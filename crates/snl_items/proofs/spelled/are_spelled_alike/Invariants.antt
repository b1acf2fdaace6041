use Rattle.std.proofs.Common.{◌≡◌, take}
use Rattle.snl_lex.specs.PieceList.{spelled}
use Rattle.snl_items.proofs.spelled.are_spelled_alike.Given as goal

abbrev pub invariant-loop-number : goal.invariant-loop-number
invariant-loop-number l = spelled l.old_text (take l.number l.old) ≡ spelled l.text (take l.number l.tokens)
