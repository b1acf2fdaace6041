use Rattle.std.proofs.Common.{◌≤◌, All, take}
use Rattle.snl_lex.specs.Pieces.{piece_end}
use Rattle.snl_items.proofs.shifted.count_in_front.Given as goal

abbrev pub invariant-loop-number : goal.invariant-loop-number
invariant-loop-number l = All (λ p. piece_end p ≤ l.place) (take l.number l.tokens)
