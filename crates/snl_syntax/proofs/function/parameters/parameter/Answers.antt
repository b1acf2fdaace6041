use Rattle.std.proofs.Common.{◌≡◌, ap, arith}
use Rattle.snl_grammar.specs.Tokens.{ahead}
use Rattle.snl_grammar.specs.Reading.Functions.{parameter}
use Rattle.snl_syntax.proofs.Levels.{parameter_step}
use Rattle.snl_syntax.proofs.function.parameters.parameter.Goals as goal

pub returns-then-depth-eq0 : goal.returns-then-depth-eq0
unfolding parameter
returns-then-depth-eq0 c = let none : c.args.depth ≡ 0 = omega arith in ap (λ n. parameter n (ahead c.args.kinds.now c.args.at)) none

pub returns-else-depth-eq0 : goal.returns-else-depth-eq0
returns-else-depth-eq0 c = rw (parameter_step c.args.depth (ahead c.args.kinds.now c.args.at) (omega arith)) c.parameter_in.ensures
