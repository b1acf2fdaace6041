use Rattle.std.proofs.Common.{◌≡◌, ◌+◌, ◌-◌, ◌<◌, ◌++◌, All, map}
use Rattle.snl_lex.specs.LineList.{line_ends_in}
use Rattle.snl_lex.proofs.line_list.line_ends_in.Given as goal

abbrev pub invariant-loop-place : goal.invariant-loop-place
invariant-loop-place l = record {
  can_next : (goal.iterator-loop-place).can_next l.place-iterator;
  is_finite : (goal.iterator-loop-place).is_finite l.place-iterator;
  inside : All (λ p. p < l.to - l.from) l.place-iterator;
  ends : line_ends_in l.text l.from l.to ≡ l.ends.items ++ map (λ p. l.from + p) l.place-iterator;
}
