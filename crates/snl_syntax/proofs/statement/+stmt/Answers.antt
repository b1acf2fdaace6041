use Rattle.std.proofs.Common.{◌≡◌, ap, arith}
use Rattle.snl_grammar.specs.Tokens.{ahead}
use Rattle.snl_grammar.specs.Reading.Statements.{stmt}
use Rattle.snl_syntax.proofs.Levels.{stmt_deeper}
use Rattle.snl_syntax.proofs.statement.+stmt.Goals as goal

pub returns-then-depth-eq0 : goal.returns-then-depth-eq0
unfolding stmt
returns-then-depth-eq0 t c = let none : c.args.depth ≡ 0 = omega arith in ap (λ n. stmt n (ahead c.args.kinds.now c.args.at)) none

pub returns : goal.returns
returns t c = rw (stmt_deeper c.args.depth (ahead c.args.kinds.now c.args.at) (omega arith)) c.stmt_of.ensures
