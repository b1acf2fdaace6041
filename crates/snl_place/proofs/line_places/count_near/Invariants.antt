use Rattle.std.proofs.Common.{◌≤◌}
use Rattle.snl_lex.specs.LineList.{ends_before}
use Rattle.snl_place.proofs.line_places.count_near.Given as goal

abbrev pub invariant-loop-line : goal.invariant-loop-line
invariant-loop-line l = l.line ≤ ends_before l.ends l.offset
