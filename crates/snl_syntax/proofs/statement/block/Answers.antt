use Rattle.std.proofs.Common.{◌≡◌, ap, arith, subst, sym}
use Rattle.snl_grammar.specs.Tokens.{ahead}
use Rattle.snl_grammar.specs.Reading.Statements.{block}
use Rattle.snl_expression.specs.Reads.{Reads}
use Rattle.snl_syntax.proofs.Levels.{block_deeper}
use Rattle.snl_syntax.proofs.statement.block.Goals as goal

pub returns-then-depth-eq0 : goal.returns-then-depth-eq0
unfolding block
returns-then-depth-eq0 c = let none : c.args.depth ≡ 0 = omega arith in ap (λ n. block n (ahead c.args.kinds.now c.args.at)) none

pub returns : goal.returns
returns c = subst (Reads c.args.kinds.now c.block_of.result) (sym (block_deeper c.args.depth (ahead c.args.kinds.now c.args.at) (omega arith))) c.block_of.ensures
