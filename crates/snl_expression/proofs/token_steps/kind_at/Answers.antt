use Rattle.std.proofs.Common.{sym}
use Rattle.snl_grammar.specs.TokenLaws.{kind_some, kind_none}
use Rattle.snl_expression.proofs.token_steps.kind_at.Goals as goal

pub returns-then-at-kinds : goal.returns-then-at-kinds
returns-then-at-kinds c = sym (kind_some c.args.kinds.now c.args.at _ c.if-at-kinds.true)

pub returns-else-at-kinds : goal.returns-else-at-kinds
returns-else-at-kinds c = sym (kind_none c.args.kinds.now c.args.at c.if-at-kinds.false)
