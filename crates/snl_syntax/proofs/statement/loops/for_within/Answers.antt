use Rattle.std.proofs.Common.{◌≡◌, ap, arith}
use Rattle.snl_grammar.specs.Tokens.{ahead}
use Rattle.snl_grammar.specs.Steps.{within}
use Rattle.snl_grammar.specs.Reading.Statements.{for_parts, for_within}
use Rattle.snl_expression.specs.TurnLaws.{deeper}
use Rattle.snl_syntax.proofs.statement.loops.for_within.Goals as goal

pub returns-then-depth-eq0 : goal.returns-then-depth-eq0
unfolding within
returns-then-depth-eq0 g = let none : g.args.depth ≡ 0 = omega arith in ap (λ n. for_within n (ahead g.args.kinds.now g.args.at)) none

pub returns-else-depth-eq0 : goal.returns-else-depth-eq0
unfolding within
returns-else-depth-eq0 g = rw (deeper (λ n. within n (for_parts g.args.depth) (ahead g.args.kinds.now g.args.at)) g.args.depth (omega arith)) g.for_parts.ensures
