use Rattle.std.proofs.Common.{◌≡◌, ap, arith}
use Rattle.snl_grammar.specs.Tokens.{ahead}
use Rattle.snl_grammar.specs.Reading.Expressions.{assignx}
use Rattle.snl_expression.specs.TurnLaws.{deeper}
use Rattle.snl_expression.proofs.expression.+assignx.Goals as goal

pub returns-then-depth-eq0 : goal.returns-then-depth-eq0
unfolding assignx
returns-then-depth-eq0 t c = let none : c.args.depth ≡ 0 = omega arith in ap (λ n. assignx n (ahead c.args.kinds.now c.args.at)) none

pub returns : goal.returns
unfolding assignx
returns t c = rw (deeper (λ n. assignx n (ahead c.args.kinds.now c.args.at)) c.args.depth (omega arith)) c.single_of.ensures
