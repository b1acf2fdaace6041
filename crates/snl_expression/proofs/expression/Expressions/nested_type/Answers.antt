use Rattle.std.proofs.Common.{◌≡◌, ap, arith}
use Rattle.snl_grammar.specs.Tokens.{ahead}
use Rattle.snl_grammar.specs.Steps.{within}
use Rattle.snl_grammar.specs.Reading.Expressions.{type_within}
use Rattle.snl_expression.specs.TurnLaws.{deeper}
use Rattle.snl_expression.proofs.expression.Expressions.nested_type.Goals as goal

pub returns-then-self-eq0 : goal.returns-then-self-eq0
unfolding within
returns-then-self-eq0 g c = let none : c.args.self.now.depth ≡ 0 = omega arith in ap (λ n. type_within n (ahead c.args.kinds.now c.args.at)) none

pub returns-else-self-eq0 : goal.returns-else-self-eq0
unfolding within
returns-else-self-eq0 g c = rw (deeper (λ n. type_within n (ahead c.args.kinds.now c.args.at)) c.args.self.now.depth (omega arith)) c.type_name.ensures
