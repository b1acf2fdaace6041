use Rattle.std.proofs.Common.{◌≡◌, ◌+◌, ◌<◌, ◌++◌, All, length, map}
use Rattle.snl_lex.specs.LineList.{line_ends_from}
use Rattle.snl_place.proofs.draft.line_ends_from.Given as goal

abbrev pub invariant-loop-place : goal.invariant-loop-place
invariant-loop-place l = record {
  can_next : (goal.iterator-loop-place).can_next l.place-iterator;
  is_finite : (goal.iterator-loop-place).is_finite l.place-iterator;
  inside : All (λ p. p < length l.bytes) l.place-iterator;
  ends : line_ends_from l.from l.bytes ≡ l.ends.items ++ map (λ p. l.from + p) l.place-iterator;
}
