use Rattle.std.proofs.Common.{◌≡◌, ◌++◌, drop}
use Rattle.snl_forms.specs.Escapes.{written}
use Rattle.snl_forms.proofs.escape.put_escaped.Given as goal

-- what was written, and what is still to be, is all
abbrev pub invariant-loop-at : goal.invariant-loop-at
invariant-loop-at l =
    l.out.items ++ written l.how l.inside (drop l.at l.bytes)
    ≡ l.initial.out.items ++ written l.how 0 l.bytes
