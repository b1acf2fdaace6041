use Rattle.std.proofs.Common.{◌≡◌, ◌++◌, map, drop}
use Rattle.snl_codes.specs.declared.code.Code.TheVariants.{W01}
use Rattle.snl_walk.specs.Rules.{finding}
use Rattle.snl_walk.proofs.rules.add_undeclared.Given as goal

abbrev pub invariant-loop-token : goal.invariant-loop-token
invariant-loop-token l =
    l.findings.items ++ map (λ n. finding n W01) (drop l.token-index l.tokens) ≡ l.initial.findings.items ++ map (λ n. finding n W01) l.tokens
