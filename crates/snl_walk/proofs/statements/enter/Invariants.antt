use Rattle.std.proofs.Common.{◌≡◌, ◌++◌, ◌≤◌, length, drop}
use Rattle.snl_walk.specs.Tokens.{token_bytes}
use Rattle.snl_walk.specs.Scopes.{under_names}
use Rattle.snl_walk.proofs.statements.enter.Given as goal

-- the rest is taken in
abbrev pub invariant-loop-left : goal.invariant-loop-left
invariant-loop-left l = record {
  within : l.left ≤ length l.declared;
  taken : l.names ≡ under_names (token_bytes l.source.text.now l.source.tokens.now) (drop l.left l.declared) ++ l.initial.names;
}

abbrev pub decreases-loop-left : goal.decreases-loop-left
decreases-loop-left l = l.left
