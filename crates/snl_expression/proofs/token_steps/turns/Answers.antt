use Rattle.std.proofs.Common.{◌≡◌, ◌-◌, length, arith}
use Rattle.snl_grammar.specs.TokenLaws.{length-ahead}
use Rattle.snl_expression.proofs.token_steps.turns.Goals as goal

pub returns : goal.returns
returns c =
    let e = length-ahead c.args.kinds.now c.args.at in
    let s : c.saturating_sub.result ≡ length c.args.kinds.now - c.args.at = c.saturating_sub.ensures in
    omega arith
